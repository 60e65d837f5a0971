-- The one invariant behind the promises: a world that a run reaches is the one that its ledger implies.
--   sizes_of, expect_of, port_of, control_of    the control state that a ledger implies
--   Fine, Run, Ended, Legal                 the buffers and packets that a port accepts
--   Kept l w                                the world w is as the ledger l says, FIFO by FIFO
--   kept_held, kept_count                   as many words wait as were put and not taken, and so many the ring counts
--   Moves, kept_apply, kept_anew            an act that moves the ledger and the world alike keeps it
--   kept_restarted, kept_fresh              a reset, and the fresh state, give the world of the ledger that has just begun
-- Assumes nothing.
use mathlib.Core.Path.{◌≡◌, refl, sym, ap, ◌∙◌}
use mathlib.Core.Bool.{Bool, true, false}
use mathlib.Core.List.{List, [], ◌∷◌, ◌++◌}
use Prim.Native.Nat.{ℕ, ◌+◌, ◌-◌, ◌%◌, ◌^◌, ◌≤◌, ◌<◌}
use native.Mathlib.Nat.{zero-mod, mod-add-mod}
use native.Mathlib.Omega.{arith}
use lib.ListN.{length, drop, length-append, length-drop}
use lib.Seq.{drop-append-le, drop-drop}
use Rattle.paper.specs.declared.Registers.{Registers}
use Rattle.paper.specs.declared.Ring.{Ring}
use Rattle.paper.specs.declared.Packet.TheVariants.{Closed, Opened, Known}
use Rattle.paper.specs.declared.Expect.{Expect}
use Rattle.paper.specs.declared.Expect.TheVariants.{CommandA, CommandB, Payload}
use Rattle.paper.specs.declared.Port.{Port}
use Rattle.paper.specs.declared.Control.{Control}
use Rattle.paper.specs.declared.Fifo.{Fifo}
use Rattle.paper.specs.Memory.{Change, keeps, puts, takes, restarts, size, of, words_lent}
use Rattle.paper.specs.Memory.{ring_after, memory_after, waiting_after}
use Rattle.paper.specs.Registers.{good_registers, with_drops}
use Rattle.paper.specs.Fresh.{fresh_registers, fresh_control}
use Rattle.paper.specs.Transmission.{buffer_size, is_last, host_words, good_a, good_length}
use Rattle.paper.specs.Acts.{Act, restarted, does}
use Rattle.paper.specs.Machine.{World, waits, apply, fresh}
pub use Rattle.paper.specs.Packets.{Begun, Fine, Ended, GoodWhole}
use Rattle.paper.specs.Ledger.{Written, Whole, Taking, Nothing, FirstA, Between, LaterA, Filling, Wrote, Ledger, begun, put, taken}
use Rattle.paper.specs.Ledger.{laid_all, laid_so_far, all_words}
use Rattle.paper.proofs.Memory.{Fits, waiting_length}
use Rattle.paper.proofs.Compute.{everything}
use Rattle.paper.specs.Memory.{ring}
use Rattle.paper.proofs.Rings.{split, waits_of, Sound, AllFit, apply-ring, apply-ring_anew, apply-split}
use Rattle.paper.proofs.Rings.{apply-waits, apply-waits_anew, apply_sound, apply_sound_anew}
use Rattle.std.proofs.lemmas.Bool.Decides.{nat_tests}
use Rattle.paper.specs.Promises.{held}

-- ---- The control state that a ledger implies

unfoldable pub sizes_of : List Written → ℕ
sizes_of [] = 0
sizes_of (x ∷ xs) = buffer_size x.a + sizes_of xs

unfoldable pub expect_of : Taking → Expect
expect_of Nothing = CommandA Closed
expect_of (FirstA a) = CommandB a Opened
expect_of (Between b xs) = CommandA (Known b (sizes_of xs))
expect_of (LaterA b xs a) = CommandB a (Known b (sizes_of xs))
expect_of (Filling b xs a words) = Payload a (host_words a - length words) (Known b (sizes_of xs + buffer_size a))

abbrev pub port_of : Wrote → Port
port_of x = record { expect = expect_of x.taking; failed = x.failed; whole = length x.packets - x.sent }

abbrev pub control_of : Ledger → Control
control_of l = record { registers = with_drops (l.dropped % 2 ^ 32) l.registers; port = port_of l.wrote }

-- ---- What a port accepts

-- buffers of which none is Last
pub data Run : (is_open : Bool) (b sizes : ℕ) → List Written → Type 0 where
  none : {is_open : Bool} {b sizes : ℕ} → Run is_open b sizes []
  more : {is_open : Bool} {b sizes : ℕ} {x : Written} {xs : List Written}
      → Fine is_open b sizes x → is_last x.a ≡ false → Run true b (sizes + buffer_size x.a) xs → Run is_open b sizes (x ∷ xs)

unfoldable pub AllGood : List Whole → Type 0
AllGood [] = Unit {0}
AllGood (p ∷ ps) = GoodWhole p × AllGood ps

-- whether a packet is open behind these buffers, where none was before them
abbrev pub open_behind : List Written → Bool
open_behind [] = false
open_behind (x ∷ xs) = true

pub record GoodOpen (b : ℕ) (xs : List Written) : Type 0 where
  pub long : good_length b ≡ true
  pub run : Run false b 0 xs

unfoldable pub GoodTaking : Taking → Type 0
GoodTaking Nothing = Unit {0}
GoodTaking (FirstA a) = good_a false a ≡ true
GoodTaking (Between b xs) = GoodOpen b xs × (open_behind xs ≡ true)
GoodTaking (LaterA b xs a) = GoodOpen b xs × (open_behind xs ≡ true) × (good_a true a ≡ true)
GoodTaking (Filling b xs a words) = GoodOpen b xs × Begun (open_behind xs) b (sizes_of xs) a × (length words < host_words a)

pub record Legal (l : Ledger) : Type 0 where
  pub registers : good_registers l.registers ≡ true
  pub packets : AllGood l.wrote.packets
  pub taking : GoodTaking l.wrote.taking
  pub sent : l.wrote.sent ≤ length l.wrote.packets

-- ---- The invariant

pub record Kept (l : Ledger) (w : World) : Type 0 where
  pub legal : Legal l
  pub sound : Sound w
  pub control : w.state.control ≡ control_of l
  pub queues : (f : Fifo) → of (waits w) f ≡ drop (taken f l) (put f l)
  pub places : (f : Fifo) → (ring f w.state).at ≡ taken f l % size f (split w)
  pub bounds : (f : Fifo) → taken f l ≤ length (put f l)

-- what a change of a FIFO means for the words put into it since its restart and those taken since
abbrev pub Follows : Change → (before : List ℕ) (t : ℕ) → (behind : List ℕ) (t' : ℕ) → Type 0
Follows keeps p t p' t' = (p' ≡ p) × (t' ≡ t)
Follows (puts ws) p t p' t' = (p' ≡ p ++ ws) × (t' ≡ t)
Follows (takes k) p t p' t' = (p' ≡ p) × (t' ≡ t + k)
Follows restarts p t p' t' = (p' ≡ []) × (t' ≡ 0)

-- the ledger goes from l to l' as the world w does under the act a, which keeps n
pub record Moves (l l' : Ledger) (a : Act) (w : World) : Type 0 where
  pub legal : Legal l'
  pub control : a.control ≡ control_of l'
  pub split : l'.registers.n ≡ l.registers.n
  pub fits : AllFit a w
  pub follows : (f : Fifo) → Follows (of a.changes f) (put f l) (taken f l) (put f l') (taken f l')

-- ---- What keeps it

-- As many words wait in a FIFO as were put and not taken.
pub kept_held : {l : Ledger} {w : World} → Kept l w → (f : Fifo) → length (of (waits w) f) ≡ held f l
kept_held {l} h f = ap length (h.queues f) ∙ length-drop (taken f l) (put f l)

-- A world whose FIFOs hold as many words as the ledger says.
pub kept_count : {l : Ledger} {w : World} → Kept l w → (f : Fifo) → (ring f w.state).count ≡ length (put f l) - taken f l
kept_count {l} {w} h f =
    sym (waiting_length _ _ _ w.memory) ∙ ap length (sym (waits_of f w)) ∙ kept_held h f

-- The n of a world is that of its ledger.
pub kept_n : {l : Ledger} {w : World} → Kept l w → split w ≡ l.registers.n
kept_n h = ap (λ k. k.registers.n) h.control

-- what a change leaves of a FIFO: the words waiting, the ring's place, and no more words taken than put
record Moved (s : ℕ) (c : Change) (r : Ring) (p : List ℕ) (t : ℕ) (p' : List ℕ) (t' : ℕ) : Type 0 where
  words : waiting_after c (drop t p) ≡ drop t' p'
  place : (ring_after s c r).at ≡ t' % s
  bound : t' ≤ length p'

-- A change that fits leaves of a FIFO what follows from it.
moved : (s : ℕ) (c : Change) (r : Ring) (p : List ℕ) (t : ℕ) (p' : List ℕ) (t' : ℕ)
    → r.at ≡ t % s → r.count ≡ length p - t → t ≤ length p → Fits s c r → Follows c p t p' t' → Moved s c r p t p' t'
unfolding waiting_after ring_after
moved s keeps r p t p' t' place count bound fit (e, e') = rw (e, e') (record { words = refl; place = place; bound = bound })
moved s (puts ws) r p t p' t' place count bound fit (e, e') =
    rw (e, e') (record { words = sym (drop-append-le t p ws bound); place = place; bound = rw length-append (omega arith) })
moved s (takes k) r p t p' t' place count bound fit (e, e') =
    rw (e, e') (record { words = drop-drop k t p; place = rw (place, mod-add-mod t s k); bound = omega arith })
moved s restarts r p t p' t' place count bound fit (e, e') =
    rw (e, e') (record { words = refl; place = sym (zero-mod s); bound = omega arith })

-- So it is with each FIFO of a world as the ledger says.
kept_moved : {l l' : Ledger} {a : Act} {w : World} → Kept l w → Moves l l' a w
    → (f : Fifo) → Moved (size f (split w)) (of a.changes f) (ring f w.state) (put f l) (taken f l) (put f l') (taken f l')
kept_moved h v f = moved _ _ _ _ _ _ _ (h.places f) (kept_count h f) (h.bounds f) (v.fits f) (v.follows f)

-- The act of the ledger's move gives the world of the ledger after it.
pub kept_apply : {l l' : Ledger} {a : Act} {w : World} → Kept l w → Moves l l' a w → Kept l' (apply a w)
unfolding apply
kept_apply {l} {l'} {a} {w} h v =
    let same : a.control.registers.n ≡ split w = ap (λ k. k.registers.n) v.control ∙ v.split ∙ sym (kept_n h) in
    record {
      legal = v.legal;
      sound = apply_sound a w h.sound v.fits same;
      control = v.control;
      queues = λ f. apply-waits a w h.sound v.fits same f ∙ ap (waiting_after (of a.changes f)) (h.queues f) ∙ (kept_moved h v f).words;
      places = λ f. rw (apply-ring a w f, apply-split a w, same) (kept_moved h v f).place;
      bounds = λ f. (kept_moved h v f).bound;
    }

-- n of good registers is 2 to 14.
pub good_split : (r : Registers) → good_registers r ≡ true → (2 ≤ r.n) × (r.n ≤ 14)
unfolding good_registers
good_split r e = grind (arith, nat_tests)

-- An act that restarts all four FIFOs, perhaps with another n, gives a world with nothing put or taken.
pub kept_anew : {l' : Ledger} (a : Act) (w : World) → length w.memory ≡ words_lent → a.changes ≡ restarted → a.control ≡ control_of l' → Legal l'
    → ((f : Fifo) → put f l' ≡ []) → ((f : Fifo) → taken f l' ≡ 0) → Kept l' (apply a w)
unfolding apply
kept_anew {l'} a w lent anew control legal none-put none-taken =
    let n : a.control.registers.n ≡ l'.registers.n = ap (λ k. k.registers.n) control in
    let good : (2 ≤ l'.registers.n) × (l'.registers.n ≤ 14) = good_split l'.registers legal.registers in
    record {
      legal = legal;
      sound = apply_sound_anew a w lent anew (omega arith) (omega arith);
      control = control;
      queues = λ f. rw (none-put f, none-taken f) (apply-waits_anew a w anew f);
      places = λ f. rw (apply-ring_anew a w anew f, none-taken f) (sym (zero-mod _));
      bounds = λ f. rw (none-taken f) (omega arith);
    }

-- The fresh registers are good.
fresh_registers_lem : good_registers fresh_registers ≡ true
unfolding everything
fresh_registers_lem = refl

-- The ledger that has just begun is legal.
pub begun_legal : Legal begun
unfolding AllGood GoodTaking
begun_legal = record { registers = fresh_registers_lem; packets = tt; taking = tt; sent = omega arith }

-- By it nothing was put into any FIFO.
pub begun_put : (f : Fifo) → put f begun ≡ []
unfolding put laid_all laid_so_far all_words
begun_put f = grind arith

-- By it nothing was taken.
pub begun_taken : (f : Fifo) → taken f begun ≡ 0
unfolding taken laid_all
begun_taken f = grind arith

-- A reset gives the world of that ledger.
pub kept_restarted : (w : World) → length w.memory ≡ words_lent → Kept begun (apply (does fresh_control restarted 0) w)
unfolding expect_of
kept_restarted w lent = kept_anew (does fresh_control restarted 0) w lent refl refl begun_legal begun_put begun_taken

-- The fresh state over any 4,096 words is that of the ledger that has just begun.
pub kept_fresh : (m : List ℕ) → length m ≡ words_lent → Kept begun (fresh m)
unfolding apply ring_after memory_after
kept_fresh m lent = kept_restarted (fresh m) lent
