-- Answers can be told apart: by their refusal number and value, and an arrival's answer by its line.
--   number_range          a refusal's number is 1 to 15
--   number_one_to_one     two refusals with one number are the same
--   said_one_to_one       two answers said alike are the same
--   arrival_one_to_one    two arrivals answered alike are the same
-- Assumes nothing.
use mathlib.Core.Path.{◌≡◌}
use Prim.Native.Nat.{◌≤◌}
use native.Mathlib.Omega.{arith}
use Rattle.paper.specs.declared.Refusal.{Refusal}
use Rattle.paper.specs.Answers.{Answer}
use Rattle.paper.specs.Arrivals.{Verdict, arrival_answer}
use Rattle.paper.specs.Refusals.{number, said}

-- A refusal's number is 1 to 15.
pub number_range : (r : Refusal) → (1 ≤ number r) × (number r ≤ 15)
number_range r = grind arith

-- Two refusals with one number are the same.
pub number_one_to_one : (r r' : Refusal) → number r ≡ number r' → r ≡ r'
number_one_to_one r r' e = grind arith

-- Two answers said alike are the same.
pub said_one_to_one : (a b : Answer) → said a ≡ said b → a ≡ b
said_one_to_one a b e = grind (arith, number_range, number_one_to_one)

-- Two arrivals answered alike are the same.
pub arrival_one_to_one : (a b : Verdict) → arrival_answer a ≡ arrival_answer b → a ≡ b
arrival_one_to_one a b e = grind arith
