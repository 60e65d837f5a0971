-- One accepted word written in any world in range, reached or not, that has room for what is stored.
--   laid_behind            the words waiting, with more behind those of TX data
--   Able w e whole         the world w is in range, and its port expects e, with no error
--   word_answer, word_control, word_waits, word_able    the answer, the control state and the words waiting after it; the world after it is in range
-- Assumes nothing.
use Rattle.std.specs.Prelude.{Ok}
use mathlib.Core.Path.{◌≡◌, refl, ap, ◌∙◌}
use mathlib.Core.Bool.{true}
use mathlib.Core.List.{List, [], ◌∷◌, ◌++◌, append-nil}
use Prim.Native.Nat.{ℕ, ◌+◌, ◌*◌, ◌≤◌}
use native.Mathlib.Omega.{arith}
use lib.Dec.{ltb}
use lib.ListN.{length}
use borrow.Author.Tests.{lt-ltb, eq-eqb}
use Rattle.paper.specs.declared.Expect.{Expect}
use Rattle.paper.specs.declared.Ring.{Ring}
use Rattle.paper.specs.declared.Port.{Port}
use Rattle.paper.specs.declared.Control.{Control}
use Rattle.paper.specs.declared.Fifo.{Fifo}
use Rattle.paper.specs.declared.Fifo.TheVariants.{TxData, TxStatus, RxData, RxStatus}
use Rattle.paper.specs.Memory.{Four, size, of, words_lent, Change, keeps, puts, ring_after, waiting_after}
use Rattle.paper.specs.Transmission.{moves, port_takes}
use Rattle.paper.specs.Refusals.{expect_in_range}
use Rattle.paper.specs.Calls.{TxWord}
use Rattle.paper.specs.Acts.{Act, with_port}
use Rattle.paper.specs.Machine.{World, waits, decide, apply, act, step, answer, after}
use Rattle.paper.proofs.Memory.{Fits}
use Rattle.paper.proofs.Rings.{split, AllFit, apply-waits, apply-length}
use Rattle.paper.proofs.Entry.{Ready, in_range_lem}
use Rattle.paper.proofs.WordsWritten.{clear, Word, thrown, lays}
use Rattle.paper.proofs.Entry.{ready_sound}
use Rattle.paper.proofs.Fifos.{waits_count}

-- the words waiting, with more behind those of TX data
abbrev pub laid_behind : Four (List ℕ) → List ℕ → Four (List ℕ)
laid_behind q new = record { txdata = q.txdata ++ new; txstatus = q.txstatus; rxdata = q.rxdata; rxstatus = q.rxstatus }

-- ---- the act of an accepted word

-- the change that lays words
abbrev laying : List ℕ → Change
laying [] = keeps
laying (w ∷ ws) = puts (w ∷ ws)

-- It fits where there is room.
laying_fits : (s : ℕ) (r : Ring) (new : List ℕ) → r.count + length new ≤ s → Fits s (laying new) r
laying_fits s r new h = grind arith

-- Behind the words waiting are those that it lays.
laying_waits : (new q : List ℕ) → waiting_after (laying new) q ≡ q ++ new
unfolding waiting_after
laying_waits new q = grind (arith, append-nil)

-- The ring's place stays.
laying_at : (s : ℕ) (new : List ℕ) (r : Ring) → (ring_after s (laying new) r).at ≡ r.at
unfolding ring_after
laying_at s new r = grind arith

-- The ring counts them.
laying_count : (s : ℕ) (new : List ℕ) (r : Ring) → (ring_after s (laying new) r).count ≡ r.count + length new
unfolding ring_after
laying_count s new r = grind arith

-- an act that moves the port and lays words
abbrev accepting : Control → Expect → (whole : ℕ) → (new : List ℕ) → Act
accepting k e whole new =
    record {
      control = with_port (clear e whole) k;
      changes = record { txdata = laying new; txstatus = keeps; rxdata = keeps; rxstatus = keeps };
      sent = [];
      answer = Ok 0;
    }

-- a world in range, whose port has no error
pub record Able (w : World) (e : Expect) (whole : ℕ) : Type 0 where
  pub lent : length w.memory ≡ words_lent
  pub fit : Ready w.state
  pub port : w.state.control.port ≡ clear e whole

module _ {w : World} {e e' : Expect} {whole whole' word : ℕ} {new : List ℕ} (h : Able w e whole) (t : Word whole e word e' whole' new)
    (room : length (waits w).txdata + length new ≤ size TxData (split w)) where
  -- The turn of an accepted word, where there is room for what it lays.
  word_turn : port_takes (ltb (length (waits w).txdata) (size TxData (split w))) w.state.control.port word ≡ moves e' whole' (laying new)
  word_turn = ap (λ (p : Port). port_takes (ltb (length (waits w).txdata) (size TxData (split w))) p word) h.port ∙ by_word t room
    where
      by_word : {new : List ℕ} → Word whole e word e' whole' new → length (waits w).txdata + length new ≤ size TxData (split w)
          → port_takes (ltb (length (waits w).txdata) (size TxData (split w))) (clear e whole) word ≡ moves e' whole' (laying new)
      by_word (thrown f) r = f (ltb (length (waits w).txdata) (size TxData (split w)))
      by_word (lays f) r = rw (lt-ltb (length (waits w).txdata) (size TxData (split w)) (omega arith)) f

  -- Its act.
  word_act : act (TxWord word) w ≡ accepting w.state.control e' whole' new
  unfolding act decide
  word_act = rw (eq-eqb _ _ h.lent, in_range_lem w.state h.fit, word_turn)

  -- the act of the word
  abbrev its-act : Act
  its-act = accepting w.state.control e' whole' new

  -- It fits.
  word_fits : AllFit its-act w
  word_fits = elim [ TxData ↦ laying_fits _ _ new (omega (arith, waits_count w TxData, room)) | TxStatus ↦ tt | RxData ↦ tt | RxStatus ↦ tt ]

  -- The words waiting after it.
  pub word_waits : waits (after (TxWord word) w) ≡ laid_behind (waits w) new
  unfolding step waiting_after
  word_waits =
      let q : (f : Fifo) → of (waits (apply its-act w)) f ≡ waiting_after (of its-act.changes f) (of (waits w) f) =
      apply-waits its-act w (ready_sound w h.lent h.fit) word_fits refl in
      rw word_act
      (λ i. record { txdata = (q TxData ∙ laying_waits new (waits w).txdata) i; txstatus = q TxStatus i; rxdata = q RxData i; rxstatus = q RxStatus i })

  -- The world after it is in range, if what the port expects is.
  pub word_able : expect_in_range e' ≡ true → 3 * whole' ≤ length (waits w).txdata + length new → Able (after (TxWord word) w) e' whole'
  unfolding step apply ring_after
  word_able r m =
      let at : (ring_after (size TxData (split w)) (laying new) w.state.txdata).at ≡ w.state.txdata.at = laying_at _ new _ in
      let count : (ring_after (size TxData (split w)) (laying new) w.state.txdata).count ≡ w.state.txdata.count + length new = laying_count _ new _ in
      rw word_act
      record {
        lent = apply-length its-act w ∙ h.lent;
        port = refl;
        fit = record {
          low = h.fit.low;
          high = h.fit.high;
          registers = h.fit.registers;
          addrh = h.fit.addrh;
          txdata_at = rw at h.fit.txdata_at;
          txdata_count = rw count (omega (arith, waits_count w TxData, room));
          txstatus_at = h.fit.txstatus_at;
          txstatus_count = h.fit.txstatus_count;
          rxdata_at = h.fit.rxdata_at;
          rxdata_count = h.fit.rxdata_count;
          rxstatus_at = h.fit.rxstatus_at;
          rxstatus_count = h.fit.rxstatus_count;
          expect = r;
          whole = rw count (omega (arith, waits_count w TxData));
        };
      }

  -- What an accepted word leaves of the control state.
  pub word_control : (after (TxWord word) w).state.control ≡ with_port (clear e' whole') w.state.control
  unfolding step apply
  word_control = rw word_act

  -- Its answer.
  pub word_answer : answer (TxWord word) w ≡ Ok 0
  unfolding step
  word_answer = ap (λ (a : Act). a.answer) word_act
