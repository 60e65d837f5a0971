-- Demand 3: two runs that differ in content, or in arrivals that go unheard, are answered alike. specs/Twins says how.
--   Met                   what one call in each run gives: answers that agree, entries of the log, ledgers that are alike
--   allowed_met           every pair of calls that is allowed gives this
--   demand_3, support_log    the theorems
-- Assumes nothing.
use Rattle.std.specs.Prelude.{Err}
use native.Mathlib.Omega.{arith}
use mathlib.Core.Path.{◌≡◌, refl, sym, ap, ap₂, subst, ◌∙◌}
use mathlib.Core.Bool.{Bool, true}
use mathlib.Core.List.{List, [], ◌∷◌, ◌++◌}
use Prim.Native.Nat.{ℕ}
use Rattle.paper.specs.declared.Port.{Port}
use Rattle.paper.specs.declared.Control.{Control}
use Rattle.paper.specs.declared.Refusal.TheVariants.{ErrorStands}
use Rattle.paper.specs.Answers.{Answer}
use Rattle.paper.specs.Memory.{Four}
use Rattle.paper.specs.Status.{Look, look}
use Rattle.paper.specs.Arrivals.{data_words}
use Rattle.paper.specs.Transmission.{takes_expected, takes_payload, port_takes}
use Rattle.paper.specs.Calls.{Call, Arrive, RxDataRead, TxWord}
use Rattle.paper.specs.Acts.{arrive}
use Rattle.paper.specs.Machine.{World, decide, waits, levels, fresh, answer}
use Rattle.paper.specs.Ledger.{Ledger, begun, entered, note}
use Rattle.paper.specs.Runs.{Lent}
use Rattle.paper.specs.Twins.{Payload, counted, refused, Allowed, same, payload, content, Unheard, Twins, stop, both, left, right, blank_word, blank, Agree, Agrees, Demand3, logged, host_log, SupportLog}
use Rattle.paper.proofs.Kept.{port_of, control_of, Kept, kept_fresh}
use Rattle.paper.proofs.KeptRange.{kept_answer}
use Rattle.paper.proofs.ArrivalLines.{arrives_answer}
use Rattle.paper.proofs.Steps.{kept_step}
use Rattle.paper.proofs.Alike.{bare, Alike}
use Rattle.paper.proofs.AlikeNotes.{note_alike, payload_note, content_note}
use Rattle.paper.proofs.AlikeCalls.{Told, equal, word, told}

-- ---- The same call in both runs

-- what one call in each run gives, by its answers
pub record Met (l l' : Ledger) (c c' : Call) (a a' : Answer) : Type 0 where
  pub agree : Agree l l' c c' a a'
  pub logs : logged c a ≡ logged c' a'
  pub alike : Alike (note c a l) (note c' a' l')

-- The word of a read is not noted.
read_note : (a : Answer) (l : Ledger) → note RxDataRead a l ≡ note RxDataRead (blank_word a) l
unfolding note entered
read_note a l = grind arith

-- The same call, answered as told.
told_met : (l l' : Ledger) → Alike l l' → {c : Call} {a a' : Answer} → Told l l' c a a' → Met l l' c c a a'
told_met l l' e (equal {c} {a} {a'} x) =
    record { agree = record { alike = ap (blank c) x; words = λ _. x }; logs = ap (logged c) x; alike = rw x (note_alike c a' l l' e) }
told_met l l' e (word {a} {a'} b s) =
    record {
      agree = record { alike = b; words = s };
      logs = ap (λ (x : Answer). x ∷ []) b;
      alike = rw (read_note a l, read_note a' l', b) (note_alike RxDataRead (blank_word a') l l' e);
    }

-- ---- Another call in one run

-- Where a transmit error stands, a word is refused with 6.
error_stands : (free : Bool) (p : Port) (u : ℕ) → p.failed ≡ true → (port_takes free p u).answer ≡ Err ErrorStands
unfolding port_takes
error_stands free p u e = rw e

-- Where a payload word is due, the answer does not depend on it.
payload_answer : (free : Bool) (p : Port) (u v : ℕ) → Payload p → (port_takes free p u).answer ≡ (port_takes free p v).answer
unfolding port_takes takes_expected takes_payload
payload_answer free p u v (counted a more k e) =
    rw e (grind arith)
payload_answer free p u v (refused e) = error_stands free p u e ∙ sym (error_stands free p v e)

-- Nor does what is noted.
payload_noted : (free : Bool) (u v : ℕ) (l : Ledger) → Payload (port_of l.wrote)
    → Alike (note (TxWord u) (port_takes free (port_of l.wrote) u).answer l) (note (TxWord v) (port_takes free (port_of l.wrote) u).answer l)
unfolding note
payload_noted free u v l (counted a more k e) = payload_note u v (port_takes free (port_of l.wrote) u).answer l a more k e
payload_noted free u v l (refused e) = rw (error_stands free (port_of l.wrote) u e)

-- Frames that look alike are answered equally.
arrive_alike : (k : Control) (counts : Four ℕ) (x y : Look) (words words' : List ℕ) → x ≡ y
    → (arrive k counts x words).answer ≡ (arrive k counts y words').answer
arrive_alike k counts x y words words' e =
    ap (λ z. (arrive k counts z words).answer) e ∙ arrives_answer _ k y words ∙ sym (arrives_answer _ k y words')

module _ {l l' : Ledger} {w w' : World} (h : Kept l w) (h' : Kept l' w') (e : Alike l l') where
  -- A call that is answered and noted as another is in the same world gives what the other gives.
  swap_met : (c c' : Call) → answer c w ≡ answer c' w → ((a : Answer) → blank c a ≡ blank c' a) → ((a : Answer) → logged c a ≡ logged c' a)
      → Alike (note c (answer c w) l) (note c' (answer c w) l) → Met l l' c c' (answer c w) (answer c' w')
  swap_met c c' x blanks logs n =
      let m = told_met l l' e (told h h' e c') in
      record {
        agree = record { alike = blanks _ ∙ ap (blank c') x ∙ m.agree.alike; words = λ s. x ∙ m.agree.words s };
        logs = logs _ ∙ ap (logged c') x ∙ m.logs;
        alike = n ∙ ap (λ a. bare (note c' a l)) x ∙ m.alike;
      }

  -- Two calls that are allowed give this.
  allowed_met : {c c' : Call} → Allowed w c c' → Met l l' c c' (answer c w) (answer c' w')
  unfolding decide
  allowed_met (same {c}) = told_met l l' e (told h h' e c)
  allowed_met (payload {u} {v} p) =
      let due : Payload (port_of l.wrote) = subst (λ (k : Control). Payload k.port) h.control p in
      swap_met (TxWord u) (TxWord v) (kept_answer (TxWord u) h ∙ payload_answer _ _ u v due ∙ sym (kept_answer (TxWord v) h))
      (λ _. refl) (λ _. refl) (rw (kept_answer (TxWord u) h) (payload_noted _ u v l due))
  allowed_met (content {f} {g} {flags} x y z) =
      let looks : look f flags ≡ look g flags = λ i. record { len = x i; head = y i; flags = flags; fits = z i } in
      swap_met (Arrive f flags) (Arrive g flags)
      (kept_answer (Arrive f flags) h
      ∙ arrive_alike (control_of l) (levels (waits w)) (look f flags) (look g flags) (data_words f) (data_words g) looks
      ∙ sym (kept_answer (Arrive g flags) h))
      (λ _. refl) (λ _. refl) (content_note f g flags _ l x y z)

-- ---- The two runs

-- An arrival that goes unheard is not noted.
unheard_note : (f : List ℕ) (flags : ℕ) (l : Ledger) {a : Answer} → Unheard a → note (Arrive f flags) a l ≡ l
unfolding note entered
unheard_note f flags l u = grind arith

-- Runs from worlds whose ledgers are alike agree, and so do their logs.
twins_agree : {w w' : World} {cs cs' : List Call} (l l' : Ledger) → Kept l w → Kept l' w' → Alike l l' → (t : Twins w w' cs cs')
    → Agrees l l' t × (host_log cs w ≡ host_log cs' w')
unfolding Agrees host_log
twins_agree l l' h h' e stop = (tt, refl)
twins_agree l l' h h' e (both {w} {w'} {c} {c'} allowed t) =
    let m = allowed_met h h' e allowed in
    let on = twins_agree _ _ (kept_step c h) (kept_step c' h') m.alike t in
    ((m.agree, on.0), ap₂ ◌++◌ m.logs on.1)
twins_agree l l' h h' e (left {f} {flags} q t) = twins_agree _ l' (kept_step (Arrive f flags) h) h' (rw (unheard_note f flags l q) e) t
twins_agree l l' h h' e (right {f} {flags} q t) = twins_agree l _ h (kept_step (Arrive f flags) h') (rw (unheard_note f flags l' q) e) t

-- What two runs agree in from the fresh state.
fresh_agree : (m m' : List ℕ) → Lent m → Lent m' → (cs cs' : List Call) (t : Twins (fresh m) (fresh m') cs cs')
    → Agrees begun begun t × (host_log cs (fresh m) ≡ host_log cs' (fresh m'))
fresh_agree m m' lent lent' cs cs' t = twins_agree begun begun (kept_fresh m lent) (kept_fresh m' lent') refl t

-- The host's answers do not tell what was sung, nor traffic for other stations.
pub demand_3 : Demand3
demand_3 m m' lent lent' cs cs' t = (fresh_agree m m' lent lent' cs cs' t).0

-- Nor does what is computed from the support log.
pub support_log : SupportLog
support_log m m' lent lent' cs cs' t A compute = ap compute (fresh_agree m m' lent lent' cs cs' t).1
