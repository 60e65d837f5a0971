-- What a call answers.
--   Answer                a value, or a refusal
-- Assumes nothing.
use Rattle.std.specs.Prelude.{ℕ, Result}
use Rattle.paper.specs.declared.Refusal.{Refusal}

-- 01: "A refusal returns value 0": what an answer says in numbers is `said` of Refusals
abbrev pub Answer : Type 0
Answer = Result ℕ Refusal
