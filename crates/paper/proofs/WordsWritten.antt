-- Words that a port accepts one after the other, up to the one that makes a packet whole.
--   stored_from, kept_all    the payload words that are stored, word by word
--   Word                  one word is accepted: thrown away, or laid where a word is free
--   Writes                words that are all accepted, of which the last makes a packet whole
--   word_a .. word_last   A, B and payload words
--   payload_writes        the payload words of a buffer
-- Assumes nothing.
use Rattle.std.specs.Prelude.{if◌then◌else◌}
use mathlib.Core.Path.{◌≡◌, refl, sym, ap, subst₂, ◌∙◌}
use mathlib.Core.Bool.{Bool, true, false}
use mathlib.Core.List.{List, [], ◌∷◌, ◌++◌, append_assoc, append-nil}
use Prim.Native.Nat.{ℕ, suc, ◌+◌, ◌-◌, ◌≤◌}
use native.Mathlib.Omega.{arith}
use lib.ListN.{length, length-append}
use borrow.Author.Tests.{eq-eqb}
use Rattle.paper.specs.declared.Packet.{Packet}
use Rattle.paper.specs.declared.Packet.TheVariants.{Closed, Opened, Known}
use Rattle.paper.specs.declared.Expect.{Expect}
use Rattle.paper.specs.declared.Expect.TheVariants.{CommandA, CommandB, Payload}
use Rattle.paper.specs.declared.Port.{Port}
use Rattle.paper.specs.Memory.{keeps, puts}
use Rattle.paper.specs.Transmission.{buffer_size, is_last, packet_length, tag, host_words, good_a, good_length, repeats, sizes_agree, is_stored}
use Rattle.paper.specs.Transmission.{is_open, opened, moves, takes_a, takes_b, takes_payload, takes_expected, port_takes, after_payload, whole_after}
use Rattle.paper.specs.Refusals.{expect_in_range}
use Rattle.paper.specs.Ledger.{kept_of}
use Rattle.std.proofs.lemmas.Bool.{cond_both}
use Rattle.paper.proofs.Buffers.{kept_none, kept_stored, kept_thrown}
use Rattle.std.proofs.lemmas.Bool.Decides.{nat_tests}

-- ---- the payload words that are stored

-- payload word i of the buffer of a, if it is stored
abbrev pub stored_word : (a i w : ℕ) → List ℕ
stored_word a i w = if is_stored a i then w ∷ [] else []

-- those of payload words from word i on
unfoldable pub stored_from : (a i : ℕ) → List ℕ → List ℕ
stored_from a i [] = []
stored_from a i (w ∷ ws) = stored_word a i w ++ stored_from a (suc i) ws

-- One more payload word, stored or not.
kept_word : (a : ℕ) (words : List ℕ) (w : ℕ) → kept_of a (words ++ (w ∷ [])) ≡ kept_of a words ++ stored_word a (length words) w
kept_word a words w = grind (arith, kept_stored, kept_thrown, append-nil)

-- Payload words behind others.
kept_from : (a : ℕ) (words ws : List ℕ) → kept_of a (words ++ ws) ≡ kept_of a words ++ stored_from a (length words) ws
unfolding stored_from
kept_from a words [] = rw (append-nil words, append-nil (kept_of a words))
kept_from a words (w ∷ ws) =
    let one_word_more : length (words ++ (w ∷ [])) ≡ suc (length words) = simp length-append (omega arith) in
    let others : kept_of a (words ++ (w ∷ []) ++ ws) ≡ kept_of a words ++ stored_word a (length words) w ++ stored_from a (suc (length words)) ws =
    kept_from a (words ++ (w ∷ [])) ws ∙ rw (one_word_more, kept_word a words w) in
    ap (kept_of a) (sym (append_assoc words (w ∷ []) ws)) ∙ others ∙ append_assoc (kept_of a words) _ _

-- All payload words of a buffer.
pub kept_all : (a : ℕ) (words : List ℕ) → stored_from a 0 words ≡ kept_of a words
kept_all a words = sym (kept_from a [] words ∙ rw (kept_none a))

-- ---- words that are accepted

-- a port with no error
abbrev pub clear : Expect → (whole : ℕ) → Port
clear e whole = record { expect = e; failed = false; whole = whole }

-- the word w is accepted: thrown away, whether or not a word is free, or laid where one is
pub data Word (whole : ℕ) (e : Expect) (w : ℕ) (e' : Expect) (whole' : ℕ) : (new : List ℕ) → Type 0 where
  thrown : ((free : Bool) → port_takes free (clear e whole) w ≡ moves e' whole' keeps) → Word whole e w e' whole' []
  lays : port_takes true (clear e whole) w ≡ moves e' whole' (puts (w ∷ [])) → Word whole e w e' whole' (w ∷ [])

-- words that are all accepted, with what the port expects in range behind each, of which the last makes a packet whole
pub data Writes (whole : ℕ) : Expect → (ws stored : List ℕ) → Type 0 where
  ends : {e : Expect} {w : ℕ} {new : List ℕ} → Word whole e w (CommandA Closed) (whole + 1) new → Writes whole e (w ∷ []) new
  on : {e e' : Expect} {w : ℕ} {ws new stored : List ℕ}
      → Word whole e w e' whole new → expect_in_range e' ≡ true → Writes whole e' ws stored → Writes whole e (w ∷ ws) (new ++ stored)

-- With two payload words left, one is left behind the next.
more_left : (a left : ℕ) (packet : Packet) → after_payload a (suc (suc left)) packet ≡ Payload a (suc left) packet
unfolding after_payload
more_left a left packet = grind (arith, nat_tests)

-- With two payload words left, the next makes no packet whole.
more_whole : (a left whole : ℕ) → whole_after a (suc (suc left)) whole ≡ whole
unfolding whole_after
more_whole a left whole = grind (arith, nat_tests)

module _ (whole : ℕ) where
  -- A good A is accepted and laid.
  pub word_a : (packet : Packet) (a : ℕ) → good_a (is_open packet) a ≡ true → Word whole (CommandA packet) a (CommandB a (opened packet)) whole (a ∷ [])
  unfolding port_takes takes_expected takes_a
  word_a packet a good = lays (rw good)

  -- A good first B is accepted and laid.
  pub word_first_b : (a b : ℕ) → good_length b ≡ true → sizes_agree a b 0 ≡ true
      → Word whole (CommandB a Opened) b (Payload a (host_words a) (Known b (buffer_size a))) whole (b ∷ [])
  unfolding port_takes takes_expected takes_b
  word_first_b a b long agree = lays (rw (long, agree))

  -- A later B that repeats the first is accepted and thrown away.
  pub word_later_b : (a b sizes : ℕ) → sizes_agree a b sizes ≡ true
      → Word whole (CommandB a (Known b sizes)) b (Payload a (host_words a) (Known b (sizes + buffer_size a))) whole []
  unfolding port_takes takes_expected takes_b repeats
  word_later_b a b sizes agree = thrown (λ free. rw (eq-eqb (tag b) (tag b) refl, eq-eqb (packet_length b) (packet_length b) refl, agree))

  -- Payload word i is accepted, and laid where it is to be stored.
  word_payload : (a left i : ℕ) (packet : Packet) (w : ℕ) → host_words a - left ≡ i
      → Word whole (Payload a left packet) w (after_payload a left packet) (whole_after a left whole) (stored_word a i w)
  unfolding port_takes takes_expected takes_payload
  word_payload a left i packet w e =
      cond_both (is_stored a i) _ _ (Word whole (Payload a left packet) w (after_payload a left packet) (whole_after a left whole))
      (λ s. lays (rw (e, s))) (λ s. thrown (λ free. rw (e, s)))

  -- One of at least two that are left: the buffer goes on.
  word_more : (a left i : ℕ) (packet : Packet) (w : ℕ) → host_words a - suc (suc left) ≡ i
      → Word whole (Payload a (suc (suc left)) packet) w (Payload a (suc left) packet) whole (stored_word a i w)
  word_more a left i packet w e =
      subst₂ (λ (e : Expect) (n : ℕ). Word whole (Payload a (suc (suc left)) packet) w e n (stored_word a i w))
      (more_left a left packet) (more_whole a left whole) (word_payload a (suc (suc left)) i packet w e)

  -- The last of a buffer that is not Last: the packet goes on.
  pub word_full : (a i : ℕ) (packet : Packet) (w : ℕ) → host_words a - 1 ≡ i → is_last a ≡ false
      → Word whole (Payload a 1 packet) w (CommandA packet) whole (stored_word a i w)
  unfolding after_payload whole_after
  word_full a i packet w e l = rw l at (word_payload a 1 i packet w e)

  -- The last of the Last buffer: the packet is whole.
  pub word_last : (a i : ℕ) (packet : Packet) (w : ℕ) → host_words a - 1 ≡ i → is_last a ≡ true
      → Word whole (Payload a 1 packet) w (CommandA Closed) (whole + 1) (stored_word a i w)
  unfolding after_payload whole_after
  word_last a i packet w e l = rw l at (word_payload a 1 i packet w e)

  -- The payload words of a buffer from word i on, where the last of them leads to what is written behind it.
  pub payload_writes : (a : ℕ) (packet : Packet) (behind stored : List ℕ)
      → ((left : ℕ) → 1 ≤ left → left ≤ host_words a → expect_in_range (Payload a left packet) ≡ true)
      → ((i w : ℕ) → host_words a - 1 ≡ i → Writes whole (Payload a 1 packet) (w ∷ behind) (stored_word a i w ++ stored))
      → (i w : ℕ) (ws : List ℕ) → i + suc (length ws) ≡ host_words a
      → Writes whole (Payload a (suc (length ws)) packet) (w ∷ ws ++ behind) (stored_from a i (w ∷ ws) ++ stored)
  unfolding stored_from
  payload_writes a packet behind stored range final i w [] h = rw append-nil (final i w (omega arith))
  payload_writes a packet behind stored range final i w (v ∷ ws) h =
      rw append_assoc
      (on (word_more a (length ws) i packet w (omega arith)) (range (suc (length ws)) (omega arith) (omega arith))
      (payload_writes a packet behind stored range final (suc i) v ws (omega arith)))
