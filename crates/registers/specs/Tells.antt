-- What a register call is told. These calls neither read nor write the lent memory, so they take none, and each says so of every one.
--   Tells c s r            the reply r is what `step` says of the call c on the state s, whatever the lent memory holds
-- Assumes nothing.
use Rattle.std.specs.Prelude.{◌≡◌, List, ℕ, length}
use Rattle.paper.specs.declared.State.{State}
use Rattle.paper.specs.declared.Reply.{Reply}
use Rattle.paper.specs.Memory.{words_lent}
use Rattle.paper.specs.Calls.{Call}
use Rattle.paper.specs.Promises.{told, told_of}

abbrev pub Tells : Call → State → Reply ℕ → Type 0
Tells c s r = (m : List ℕ) → length m ≡ words_lent → told r.answer r.state m ≡ told_of c s m
