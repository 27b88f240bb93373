-- Order 4: a descriptor that links to itself and is not parked. Its own Fetch reads it ahead, still owned; so it runs twice before Ended.
-- What is given is as for a chain, and its k says nothing here.
-- Assumes nothing.
use Rattle.std.specs.Prelude.{ℕ, ◌+◌, ◌%◌, ◌≤◌, ◌<◌, ◌≡◌, ◌≢◌, true, false, List, [], ◌∷◌, length, get_or, drop}
use Rattle.bus.specs.Window.{in_window}
use Rattle.descriptor.specs.Layout.{owned}
use Rattle.regs.specs.Control as register
use Rattle.ledger.specs.declared.Entry.{Entry}
use Rattle.machine.specs.declared.Reason.TheVariants.{Ended}
use Rattle.machine.specs.declared.Ran.{Ran}
use Rattle.links.specs.Form.{All, Link, link_at, Off}
use Rattle.chain.specs.Chain.{Given, Share, given, cost, sent_by_all, records_of, share_of, shares_of, Enough, Done, LastSent}

-- the descriptor at the pointer
abbrev pub itself : Given → Link
itself g = link_at g.window g.memory g.pointer

-- what the stream gives it, the first time and the second
abbrev pub twice : Given → List Share
twice g = shares_of (itself g ∷ itself g ∷ []) g.beats

abbrev pub second : Given → Share
second g = share_of (itself g) (drop (share_of (itself g) g.beats).taken g.beats)

pub record LinksToItself (g : Given) : Type 0 where
  -- RUN set with PARK and STOP_DMA_ER clear
  pub run_set : register.run (register.as_control g.control) ≡ true
  pub park_clear : register.park (register.as_control g.control) ≡ false
  pub stop_clear : register.stop_dma_er (register.as_control g.control) ≡ false
  -- the window is lent whole, and what it holds is bytes
  pub lent : length g.memory ≡ g.window.length
  pub bytes : All (λ x. x < 256) g.memory
  -- an owned descriptor, aligned and in the window, whose next_desc_ptr is its own address
  pub self_owned : owned (itself g).says.control.0 ≡ true
  pub aligned : g.pointer % 4 ≡ 0
  pub inside : in_window g.window g.pointer 32 ≡ true
  pub to_itself : (itself g).says.next ≡ g.pointer
  -- the stream holds what it takes, twice; there is room for two records
  pub stream : Enough (itself g ∷ itself g ∷ []) g.beats
  pub ledger : 2 ≤ g.left
  -- each byte lands in the window, outside the descriptor
  pub lands : All (λ s. in_window g.window s.to 1 ≡ true) (sent_by_all (twice g))
  pub outside : All (λ s. Off (itself g) s.to) (sent_by_all (twice g))

-- what a run with budget enough tells; the window's bytes, and the records made, after it
pub record RanTwice (g : Given) (ran : Ran) (memory : List ℕ) (noted : List Entry) : Type 0 where
  pub reason : ran.reason ≡ Ended
  pub steps : ran.steps ≡ 2 + cost (twice g)
  pub taken : ran.taken ≡ given (twice g)
  pub made : ran.made ≡ 0
  -- two records, and the mark of the second
  pub records : noted ≡ records_of 1 (twice g)
  pub used : ran.used ≡ g.used + 2
  pub done : Done g.window memory (second g)
  pub pointer : ran.machine.core.pointer.0 ≡ g.pointer
  -- each landing place holds the last byte sent there; outside those places and its last four bytes no byte of memory differs
  pub landed : LastSent g.window (sent_by_all (twice g)) memory
  pub frame : (place : ℕ) → All (λ s. s.to ≢ g.window.base + place) (sent_by_all (twice g))
      → ((j : ℕ) → j < 4 → g.window.base + place ≢ g.pointer + (28 + j)) → get_or memory place 0 ≡ get_or g.memory place 0
  pub size : length memory ≡ length g.memory
