-- Noting an answer keeps ledgers alike: what is noted of content is content alone.
--   note_alike            one answer noted in ledgers that are alike
--   payload_note, content_note    a payload word, or the content of a frame, may be another
--   next_bare             the first B of the packet to be sent next is no content
-- Assumes nothing.
use Rattle.std.specs.Prelude.{Err, Ok}
use native.Mathlib.Omega.{arith}
use mathlib.Core.Path.{◌≡◌, refl, sym, ap, ◌∙◌}
use mathlib.Core.List.{List, [], ◌∷◌, ◌++◌, map, map-append}
use Prim.Native.Nat.{ℕ, zero, suc}
use lib.ListN.{length, take, drop, length-append}
use Rattle.paper.specs.Answers.{Answer}
use Rattle.paper.specs.declared.Packet.{Packet}
use Rattle.paper.specs.declared.Expect.TheVariants.{Payload}
use Rattle.paper.specs.Checksum.{fcs_fits}
use Rattle.paper.specs.Calls.{Call, Arrive, TxWord}
use Rattle.paper.specs.Ledger.{Written, Whole, Taking, Nothing, FirstA, Between, LaterA, Filling, Wrote, Ledger, filled, wrote_word, next_b, entered, note}
use Rattle.paper.proofs.Kept.{expect_of}
use Rattle.paper.proofs.Alike.{bare_buffer, bare_packet, bare_taking, bare_wrote, bare, Alike, frames_twice, buffers_twice, packets_twice, taking_twice}
use lib.ListN.{length-replicate}

-- what is bare stays so
ruleset bare-laws = (map-append, frames_twice, buffers_twice, packets_twice, taking_twice)

-- ---- One more word

-- Of a buffer with its payload words so far, only their number matters.
filled_bare : (b : ℕ) (xs : List Written) (a : ℕ) (ws vs : List ℕ) (x : Wrote) → length ws ≡ length vs
    → bare_wrote (filled b xs a ws x) ≡ bare_wrote (filled b (map bare_buffer xs) a vs (bare_wrote x))
unfolding bare_taking
filled_bare b xs a ws vs x e =
    rw e (grind (arith, bare-laws, e))

-- A word more in a ledger and in its bare one.
word_bare : (w : ℕ) (t : Taking) (x : Wrote) → bare_wrote (wrote_word w t x) ≡ bare_wrote (wrote_word w (bare_taking t) (bare_wrote x))
unfolding wrote_word bare_taking
word_bare w t x = grind (arith, bare-laws, filled_bare, length-append, length-replicate)

-- ---- One more call

-- The first B of the packet to be sent next does not depend on content.
pub next_bare : (k : ℕ) (ps : List Whole) → next_b (drop k (map bare_packet ps)) ≡ next_b (drop k ps)
next_bare zero [] = refl
next_bare zero (p ∷ ps) = refl
next_bare (suc k) [] = refl
next_bare (suc k) (p ∷ ps) = next_bare k ps

-- An accepted call noted in a ledger and in its bare one.
entered_bare : (c : Call) (v : ℕ) (l : Ledger) → Alike (entered c v l) (entered c v (bare l))
unfolding entered bare
entered_bare c v l = grind (arith, bare-laws, word_bare, next_bare)

-- An answer noted in a ledger and in its bare one.
note_bare : (c : Call) (a : Answer) (l : Ledger) → Alike (note c a l) (note c a (bare l))
unfolding note
note_bare c (Ok v) l = entered_bare c v l
note_bare c (Err r) l = unfold bare in grind (arith, bare-laws)

-- An answer noted in ledgers that are alike.
pub note_alike : (c : Call) (a : Answer) (l l' : Ledger) → Alike l l' → Alike (note c a l) (note c a l')
note_alike c a l l' e = note_bare c a l ∙ ap (λ x. bare (note c a x)) e ∙ sym (note_bare c a l')

-- Where the port counts payload, any word is noted alike.
payload_bare : (u v : ℕ) (t : Taking) (x : Wrote) (a left : ℕ) (k : Packet) → expect_of t ≡ Payload a left k
    → bare_wrote (wrote_word u t x) ≡ bare_wrote (wrote_word v t x)
unfolding expect_of wrote_word
payload_bare u v Nothing x a left k e = cc
payload_bare u v (FirstA a) x a' left k e = cc
payload_bare u v (Between b xs) x a left k e = cc
payload_bare u v (LaterA b xs a) x a' left k e = cc
payload_bare u v (Filling b xs a ws) x a' left k e =
    filled_bare b xs a (ws ++ (u ∷ [])) (ws ++ (v ∷ [])) x (simp length-append) ∙ sym (filled_bare b xs a (ws ++ (v ∷ [])) (ws ++ (v ∷ [])) x refl)

-- So is any answer to such a word.
pub payload_note : (u v : ℕ) (answer : Answer) (l : Ledger) (a left : ℕ) (k : Packet) → expect_of l.wrote.taking ≡ Payload a left k
    → Alike (note (TxWord u) answer l) (note (TxWord v) answer l)
unfolding note entered bare
payload_note u v a l a' left k e = grind (arith, payload_bare)

-- Frames that look alike are noted alike.
pub content_note : (f g : List ℕ) (flags : ℕ) (answer : Answer) (l : Ledger) → length f ≡ length g → take 14 f ≡ take 14 g → fcs_fits f ≡ fcs_fits g
    → Alike (note (Arrive f flags) answer l) (note (Arrive g flags) answer l)
unfolding note entered bare
content_note f g flags answer l e e' e'' = grind (arith, map-append, e, e', e'')
