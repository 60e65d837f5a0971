-- One word written to a port that is as what was written so far implies: what the turn does to the port, to what was written and to TX data.
--   laid_by x             the words put into TX data since its restart, by what was written
--   wrote_after w a x     what was written, after the word w was answered a
--   GoodWrote x           the packets and the packet being written are ones that a port accepts
--   Lays, Turned          what a change puts behind the words laid; what a turn keeps to
--   turned                every turn keeps to it
-- Assumes nothing.
use Rattle.std.specs.Prelude.{if◌then◌else◌, Err, Ok}
use mathlib.Core.Path.{◌≡◌, refl, sym, ap, ◌∙◌}
use mathlib.Core.Bool.{Bool, true, false}
use mathlib.Core.List.{List, [], ◌∷◌, ◌++◌, append_assoc}
use Prim.Native.Nat.{ℕ, ◌-◌, ◌≤◌}
use lib.ListN.{length, take}
use Rattle.paper.specs.declared.Expect.{Expect}
use Rattle.paper.specs.declared.Refusal.{Refusal}
use Rattle.paper.specs.declared.Refusal.TheVariants.{ErrorStands, DataFull}
use Rattle.paper.specs.Answers.{Answer}
use Rattle.paper.specs.Memory.{Change, keeps, puts}
use Rattle.paper.specs.Transmission.{Turn, fails, moves, stores}
use Rattle.paper.specs.Ledger.{Taking, Wrote, laid_all, laid_so_far}
use Rattle.paper.specs.Ledger.{taking_on, wrote_word, sets_error}
use Rattle.std.proofs.lemmas.Bool.{cond_both}
use Rattle.paper.proofs.Kept.{expect_of, port_of, AllGood, GoodTaking}

abbrev pub laid_by : Wrote → List ℕ
laid_by x = laid_all x.packets ++ laid_so_far x.taking

abbrev pub failing : Wrote → Wrote
failing x = record { packets = x.packets; taking = x.taking; sent = x.sent; failed = true }

abbrev pub wrote_after : (w : ℕ) → Answer → Wrote → Wrote
wrote_after w (Ok v) x = wrote_word w x.taking x
wrote_after w (Err r) x = if sets_error r then failing x else x

pub record GoodWrote (x : Wrote) : Type 0 where
  pub packets : AllGood x.packets
  pub taking : GoodTaking x.taking
  pub sent : x.sent ≤ length x.packets

-- a change of TX data, by the words laid before it and behind it: none, or one more where a word is free
pub data Lays (free : Bool) : Change → (before behind : List ℕ) → Type 0 where
  lays_none : {before behind : List ℕ} → behind ≡ before → Lays free keeps before behind
  lays_one : {before behind : List ℕ} (w : ℕ) → free ≡ true → behind ≡ before ++ (w ∷ []) → Lays free (puts (w ∷ [])) before behind

-- a turn that takes what was written from x to x'
pub record Turned (free : Bool) (x x' : Wrote) (t : Turn) : Type 0 where
  pub port : t.port ≡ port_of x'
  pub lays : Lays free t.change (laid_by x) (laid_by x')
  pub good : GoodWrote x'
  pub taken : laid_all (take x'.sent x'.packets) ≡ laid_all (take x.sent x.packets)

-- a turn that takes it to what its answer says
abbrev pub TurnsTo : (free : Bool) (w : ℕ) → Wrote → Turn → Type 0
TurnsTo free w x t = Turned free x (wrote_after w t.answer x) t

-- A change with other words before all of it.
pub lays_behind : {free : Bool} {c : Change} {before behind : List ℕ} (ws : List ℕ) → Lays free c before behind → Lays free c (ws ++ before) (ws ++ behind)
lays_behind ws (lays_none e) = lays_none (ap (λ s. ws ++ s) e)
lays_behind ws (lays_one {before = before} w f e) = lays_one w f (ap (λ s. ws ++ s) e ∙ sym (append_assoc ws before (w ∷ [])))

module _ (free : Bool) (w : ℕ) (x : Wrote) (good : GoodWrote x) where
  -- While an error stands, nothing is done.
  pub stands : TurnsTo free w x (record { port = port_of x; change = keeps; answer = Err ErrorStands })
  stands = record { port = refl; lays = lays_none refl; good = good; taken = refl }

  -- A refusal that sets the error sets it in what was written.
  pub failed : (r : Refusal) → sets_error r ≡ true → TurnsTo free w x (fails r (port_of x))
  failed r e =
      rw e (record {
        port = refl;
        lays = lays_none refl;
        good = record { packets = good.packets; taking = good.taking; sent = good.sent };
        taken = refl;
      })

  -- A word to be stored is stored where a word is free, and refused where none is.
  pub stored : (e : Expect) (whole : ℕ) → (free ≡ true → TurnsTo free w x (moves e whole (puts (w ∷ [])))) → TurnsTo free w x (stores free (port_of x) e whole w)
  stored e whole h = cond_both free _ _ (TurnsTo free w x) h (λ f. failed DataFull refl)

module _ (free : Bool) (x : Wrote) (good : GoodWrote x) where
  -- A word that makes no packet whole moves the packet being written on.
  pub moves_on : (t : Taking) (c : Change) → x.failed ≡ false → GoodTaking t → Lays free c (laid_so_far x.taking) (laid_so_far t)
      → Turned free x (taking_on t x) (moves (expect_of t) (length x.packets - x.sent) c)
  moves_on t c ok g l =
      record {
        port = rw ok;
        lays = lays_behind (laid_all x.packets) l;
        good = record { packets = good.packets; taking = g; sent = good.sent };
        taken = refl;
      }
