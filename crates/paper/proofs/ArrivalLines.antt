-- An arriving frame: what each line that answers says of the frame and of the room. Paper 01, An arriving frame.
--   Says a r words statuses l     what the answer a to the look l says, under registers r and with so many words and statuses free
--   SaysAt a k w l                the same in a world w, under the control state k
--   arrival_says                  the answer to an arrival says so
--   arrival_drops                 and a frame that is due and has no room is dropped
--   arrives_answer, arrives_split, arrives_still    what is answered is the line; n stays; what is not stored leaves the FIFOs
--   arrives_fits                  what an arrival puts fits
--   passes_drops                  the filter does not look at RX_DROP
-- Assumes nothing.
use Rattle.std.specs.Prelude.{Err, Ok}
use mathlib.Core.Path.{◌≡◌, refl}
use mathlib.Core.Logic.{◌≢◌}
use mathlib.Core.Bool.{Bool, true, false, not, ◌&&◌, ◌||◌}
use mathlib.Core.List.{List}
use Prim.Native.Nat.{ℕ, ◌-◌, ◌≤◌, ◌<◌}
use native.Mathlib.Omega.{arith}
use lib.Dec.{ltb, eqb}
use lib.ListN.{length}
use borrow.Author.Tests.{not-false}
use Rattle.paper.specs.declared.Registers.{Registers}
use Rattle.paper.specs.declared.Rule.{Rule}
use Rattle.paper.specs.declared.Control.{Control}
use Rattle.paper.specs.declared.Arrival.TheVariants.{Ignored, Discarded, Filtered, Dropped, Stored}
use Rattle.paper.specs.declared.Fifo.TheVariants.{RxData, RxStatus}
use Rattle.paper.specs.Memory.{size}
use Rattle.paper.specs.Registers.{Setting, with_drops}
use Rattle.paper.specs.Filter.{passes_rule, passes_setting, passes}
use Rattle.paper.specs.Status.{Look, look}
use Rattle.paper.specs.Arrivals.{Verdict, words_for, data_words, room, by_room, arrival, arrival_answer}
use Rattle.paper.specs.Acts.{unchanged, arrives}
use Rattle.paper.specs.Machine.{World, waits}
use Rattle.paper.specs.Ledger.{sets_error}
use Rattle.paper.specs.Runs.{Due}
use Rattle.std.proofs.lemmas.Bool.{cond_both}
use Rattle.paper.proofs.Counts.{data_words-length}
use Rattle.paper.proofs.Rings.{split, Sound, AllFit}
use Rattle.paper.proofs.Fifos.{each, waits_count}
use Rattle.std.proofs.lemmas.Bool.Decides.{nat_tests}

-- line 6 applies: too few words are free, or no status
abbrev pub is_short : (words statuses len : ℕ) → Bool
is_short words statuses len = ltb words (words_for len) || eqb statuses 0

-- what an answer says
abbrev pub Says : Verdict → Registers → (words statuses : ℕ) → Look → Type 0
Says (Err e) r words statuses l = sets_error e ≡ false
Says (Ok Ignored) r words statuses l = Unit {0}
Says (Ok Discarded) r words statuses l = Unit {0}
Says (Ok Filtered) r words statuses l = Unit {0}
Says (Ok Dropped) r words statuses l = Due r l × (is_short words statuses l.len ≡ true)
Says (Ok Stored) r words statuses l = (words_for l.len ≤ words) × (0 < statuses)

-- the same in a world, under the control state k
abbrev pub SaysAt : Verdict → Control → World → Look → Type 0
SaysAt a k w l =
    Says a k.registers (size RxData k.registers.n - length (waits w).rxdata) (size RxStatus k.registers.n - length (waits w).rxstatus) l

-- Line 5 does not apply where the filter says yes, or RXALL is set.
not_filtered : (p all : Bool) → (p || all) ≡ true → (not p && not all) ≡ false
not_filtered p all e = grind arith

-- Where line 5 does not apply, the filter says yes, or RXALL is set.
passed_or_all : (p all : Bool) → (not p && not all) ≡ false → (p || all) ≡ true
passed_or_all p all e = grind arith

module _ (r : Registers) (words statuses : ℕ) (l : Look) where
  -- A frame that is due is stored where there is room, and else dropped.
  due_says : Due r l → Says (Ok (by_room (room l.len words statuses))) r words statuses l
  unfolding room
  due_says due = cond_both (is_short words statuses l.len) _ _ (λ x. Says (Ok (by_room x)) r words statuses l) (λ t. (due, t)) (λ t. grind (arith, nat_tests))

  -- The first line that applies answers, and says what it says.
  pub arrival_says : Says (arrival r words statuses l) r words statuses l
  unfolding arrival
  arrival_says =
      cond_both _ _ _ says (λ _. refl) λ good.
      cond_both _ _ _ says (λ _. refl) λ flags.
      cond_both _ _ _ says (λ _. tt) λ receiving.
      cond_both _ _ _ says (λ _. tt) λ whole.
      cond_both _ _ _ says (λ _. tt) λ passed.
      due_says (record {
        length_good = good;
        flags = not-false _ flags;
        receiving = not-false _ receiving;
        not_discarded = whole;
        passed = passed_or_all (passes r l.head) _ passed;
      })
    where
      says : Verdict → Type 0
      says a = Says a r words statuses l

  -- A frame that is due and for which line 6 applies is dropped.
  pub arrival_drops : Due r l → is_short words statuses l.len ≡ true → arrival r words statuses l ≡ Ok Dropped
  unfolding arrival room
  arrival_drops due t = rw (due.length_good, due.flags, due.receiving, due.not_discarded, not_filtered (passes r l.head) _ due.passed, t)

-- What is answered to an arrival is its line.
pub arrives_answer : (a : Verdict) (k : Control) (l : Look) (words : List ℕ) → (arrives a k l words).answer ≡ arrival_answer a
unfolding arrives
arrives_answer a k l words = grind arith

-- An arrival leaves n.
pub arrives_split : (a : Verdict) (k : Control) (l : Look) (words : List ℕ) → (arrives a k l words).control.registers.n ≡ k.registers.n
unfolding arrives
arrives_split a k l words = grind arith

-- An arrival that is not stored leaves all four FIFOs.
pub arrives_still : (a : Verdict) (k : Control) (l : Look) (words : List ℕ) → a ≢ Ok Stored → (arrives a k l words).changes ≡ unchanged
unfolding arrives
arrives_still a k l words d = grind arith

-- What an arrival puts fits: the words and the status of a frame that is stored have room.
pub arrives_fits : (a : Verdict) (k : Control) (w : World) (frame : List ℕ) (flags : ℕ) → Sound w → k.registers.n ≡ split w
    → SaysAt a k w (look frame flags) → AllFit (arrives a k (look frame flags) (data_words frame)) w
unfolding arrives
arrives_fits (Err e) k w frame flags sound same says = each _ tt tt tt tt
arrives_fits (Ok Ignored) k w frame flags sound same says = each _ tt tt tt tt
arrives_fits (Ok Discarded) k w frame flags sound same says = each _ tt tt tt tt
arrives_fits (Ok Filtered) k w frame flags sound same says = each _ tt tt tt tt
arrives_fits (Ok Dropped) k w frame flags sound same says = each _ tt tt tt tt
arrives_fits (Ok Stored) k w frame flags sound same says =
    each _ tt tt
    (omega (arith, data_words-length frame, waits_count w RxData, sound.rings RxData))
    (omega (arith, waits_count w RxStatus))

-- A rule does not look at RX_DROP.
rule_drops : (d : ℕ) (rule : Rule) (r : Registers) (address : List ℕ) → passes_rule rule (with_drops d r) address ≡ passes_rule rule r address
unfolding passes_rule
rule_drops d rule r address = grind arith

-- A setting does not.
setting_drops : (d : ℕ) (s : Setting) (r : Registers) (head : List ℕ) → passes_setting s (with_drops d r) head ≡ passes_setting s r head
unfolding passes_setting
setting_drops d s r head = grind (arith, rule_drops)

-- The filter does not.
pub passes_drops : (d : ℕ) (r : Registers) (head : List ℕ) → passes (with_drops d r) head ≡ passes r head
unfolding passes
passes_drops d r head = grind (arith, setting_drops)
