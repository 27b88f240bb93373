-- What holds of every element of a list.
-- Assumes nothing.
use Prim.Native.Nat.{ℕ, zero, suc}
use mathlib.Core.List.{List, [], ◌∷◌, ◌++◌}
use lib.ListN.{drop}
use Rattle.links.specs.Form.{All, Link}
use Rattle.chain.specs.Chain.{Share}

module _ {A : Type 0} where
  pub all_map : {P Q : A → Type 0} → ((x : A) → P x → Q x) → (xs : List A) → All P xs → All Q xs
  all_map f [] a = tt
  all_map f (x ∷ xs) a = (f x a.0, all_map f xs a.1)

  pub all-map2 : {P Q R : A → Type 0} → ((x : A) → P x → Q x → R x) → (xs : List A) → All P xs → All Q xs → All R xs
  all-map2 f [] a b = tt
  all-map2 f (x ∷ xs) a b = (f x a.0 b.0, all-map2 f xs a.1 b.1)

  pub all_left : (P : A → Type 0) (xs ys : List A) → All P (xs ++ ys) → All P xs
  all_left P [] ys a = tt
  all_left P (x ∷ xs) ys a = (a.0, all_left P xs ys a.1)

  pub all_right : (P : A → Type 0) (xs ys : List A) → All P (xs ++ ys) → All P ys
  all_right P [] ys a = a
  all_right P (x ∷ xs) ys a = all_right P xs ys a.1

  pub all_append : (P : A → Type 0) (xs ys : List A) → All P xs → All P ys → All P (xs ++ ys)
  all_append P [] ys a b = b
  all_append P (x ∷ xs) ys a b = (a.0, all_append P xs ys a.1 b)

  pub all_drop : (P : A → Type 0) (n : ℕ) (xs : List A) → All P xs → All P (drop n xs)
  all_drop P zero xs a = a
  all_drop P (suc n) [] a = a
  all_drop P (suc n) (x ∷ xs) a = all_drop P n xs a.1

  -- what holds of every element holds of each
  pub all-each : {I : Type 0} (R : I → A → Type 0) (xs : List A) → All (λ x. (i : I) → All (R i) xs → R i x) xs
  all-each R [] = tt
  all-each R (x ∷ xs) = (λ i a. a.0, all_map (λ y f i a. f i a.1) xs (all-each R xs))

-- of every pair, in either order
pub all-swap : {A B : Type 0} (R : A → B → Type 0) (xs : List A) (ys : List B) → All (λ x. All (R x) ys) xs → All (λ y. All (λ x. R x y) xs) ys
all-swap R xs [] a = tt
all-swap R xs (y ∷ ys) a = (all_map (λ x b. b.0) xs a, all-swap R xs ys (all_map (λ x b. b.1) xs a))

-- the links of shares
abbrev pub links_of : List Share → List Link
links_of [] = []
links_of (s ∷ ss) = s.link ∷ links_of ss

-- of the links, so of the shares
pub all-linked : (P : Link → Type 0) (ss : List Share) → All P (links_of ss) → All (λ (s : Share). P s.link) ss
all-linked P [] a = tt
all-linked P (s ∷ ss) a = (a.0, all-linked P ss a.1)
