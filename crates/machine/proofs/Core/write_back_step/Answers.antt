use Rattle.machine.proofs.Core.write_back_step.Goals as goal

pub returns : goal.returns
returns c = λ w left. simp (c.completed.ensures, c.put_back.ensures w)
