-- One packet's words written to a port that expects an A with no packet open: with room for what is stored, all are accepted and the packet is whole.
--   feed room port ws     words written one after the other to a port, where TX data has room words free
--   packet_writes         the words of a good packet are accepted one after the other
--   packet_fed            what feeding them to a port gives
-- Assumes nothing.
use Rattle.std.specs.Prelude.{Ok}
use mathlib.Core.Path.{◌≡◌, ap, ◌∙◌}
use mathlib.Core.Bool.{Bool, true, false, not}
use mathlib.Core.List.{List, [], ◌∷◌, ◌++◌, append-nil}
use Prim.Native.Nat.{ℕ, ◌+◌, ◌-◌, ◌≤◌}
use native.Mathlib.Nat.{sub-zero, zero-add}
use native.Mathlib.Omega.{arith}
use lib.Dec.{ltb}
use lib.ListN.{length, replicate}
use borrow.Author.Tests.{lt-ltb, le-leb}
use Rattle.paper.specs.declared.Packet.TheVariants.{Closed, Known}
use Rattle.paper.specs.declared.Expect.{Expect}
use Rattle.paper.specs.declared.Expect.TheVariants.{CommandA, Payload}
use Rattle.paper.specs.declared.Port.{Port}
use Rattle.paper.specs.Answers.{Answer}
use Rattle.paper.specs.Memory.{Change, keeps, puts, takes, restarts}
use Rattle.paper.specs.Transmission.{buffer_size, is_first, is_last, packet_length, host_words, good_a, good_length}
use Rattle.paper.specs.Transmission.{is_open, port_takes}
use Rattle.paper.specs.Refusals.{expect_in_range, known_in_range}
use Rattle.paper.specs.Packets.{buffers_writes, host_writes}
use Rattle.paper.specs.Ledger.{Written, Whole, kept_of, laid_later, laid_first, laid}
use Rattle.paper.proofs.Counts.{host_words_pos}
use Rattle.paper.proofs.Kept.{Fine, Ended, GoodWhole}
use Rattle.paper.proofs.KeptRange.{agree_within}
use Rattle.paper.proofs.WordsWritten.{stored_word, stored_from, kept_all, clear, thrown, lays, Writes, ends, on}
use Rattle.paper.proofs.WordsWritten.{word_a, word_first_b, word_later_b, word_full, word_last, payload_writes}
use Rattle.std.proofs.lemmas.Bool.Decides.{nat_tests}

-- ---- the words of a packet, and a port that is fed with words

-- the port after words, the words put into TX data, the answers
pub record Fed : Type 0 where
  pub port : Port
  pub stored : List ℕ
  pub answers : List Answer

-- the words that a change puts
abbrev pub put_by : Change → List ℕ
put_by keeps = []
put_by (puts ws) = ws
put_by (takes k) = []
put_by restarts = []

unfoldable pub feed : (room : ℕ) → Port → List ℕ → Fed
feed room p [] = record { port = p; stored = []; answers = [] }
feed room p (w ∷ ws) =
    let turn = port_takes (ltb 0 room) p w in
    let rest = feed (room - length (put_by turn.change)) turn.port ws in
    record { port = rest.port; stored = put_by turn.change ++ rest.stored; answers = turn.answer ∷ rest.answers }

-- ---- what the port expects on the way is in range

-- A good A is First exactly where no packet is open.
good_first : (is_open : Bool) (a : ℕ) → good_a is_open a ≡ true → not (is_first a) ≡ is_open
unfolding good_a
good_first is_open a e = grind (arith, nat_tests)

module _ (whole b : ℕ) (long : good_length b ≡ true) where
  -- A packet's B, with sizes that keep to its length.
  known_range : (sizes : ℕ) → sizes ≤ packet_length b → known_in_range b sizes ≡ true
  known_range sizes h = grind (arith, nat_tests)

  -- A buffer with payload words left.
  payload_range : (is_open : Bool) (a left sizes : ℕ) → good_a is_open a ≡ true → sizes ≤ packet_length b → 1 ≤ left → left ≤ host_words a
      → expect_in_range (Payload a left (Known b sizes)) ≡ true
  unfolding expect_in_range
  payload_range is_open a left sizes good h low high =
      rw (good_first is_open a good, known_range sizes h, good, le-leb 1 left low, le-leb left (host_words a) high)

  -- ---- buffer after buffer

  -- The payload words of an accepted buffer, where the last of them leads to what is written behind it.
  buffer_writes : {is_open : Bool} {sizes : ℕ} {x : Written} (behind stored : List ℕ) → Fine is_open b sizes x
      → ((i w : ℕ) → host_words x.a - 1 ≡ i
      → Writes whole (Payload x.a 1 (Known b (sizes + buffer_size x.a))) (w ∷ behind) (stored_word x.a i w ++ stored))
      → Writes whole (Payload x.a (host_words x.a) (Known b (sizes + buffer_size x.a))) (x.words ++ behind) (kept_of x.a x.words ++ stored)
  buffer_writes {is_open} {sizes} {x} behind stored f final = rw (← f.full, ← kept_all x.a x.words) (nonempty x.words f.full)
    where
      nonempty : (ws : List ℕ) → length ws ≡ host_words x.a
          → Writes whole (Payload x.a (length ws) (Known b (sizes + buffer_size x.a))) (ws ++ behind) (stored_from x.a 0 ws ++ stored)
      nonempty [] e = absurd (omega (arith, host_words_pos is_open x.a f.begun.good))
      nonempty (w ∷ ws) e =
          payload_writes whole x.a (Known b (sizes + buffer_size x.a)) behind stored
          (λ left. payload_range is_open x.a left _ f.begun.good (agree_within x.a b sizes f.begun.agree)) final 0 w ws (omega arith)

  -- Those of the Last buffer.
  last_writes : {is_open : Bool} {sizes : ℕ} {x : Written} → Fine is_open b sizes x → is_last x.a ≡ true
      → Writes whole (Payload x.a (host_words x.a) (Known b (sizes + buffer_size x.a))) (x.words ++ []) (kept_of x.a x.words ++ [])
  last_writes {x = x} f l = buffer_writes [] [] f (λ i w e. rw append-nil (ends (word_last whole x.a i _ w e l)))

  -- Those of another buffer, with the rest of the packet behind it.
  more_writes : {is_open : Bool} {sizes : ℕ} {x : Written} {behind stored : List ℕ} → Fine is_open b sizes x → is_last x.a ≡ false
      → Writes whole (CommandA (Known b (sizes + buffer_size x.a))) behind stored
      → Writes whole (Payload x.a (host_words x.a) (Known b (sizes + buffer_size x.a))) (x.words ++ behind) (kept_of x.a x.words ++ stored)
  unfolding expect_in_range
  more_writes {sizes = sizes} {x = x} {behind = behind} {stored = stored} f l rest =
      buffer_writes behind stored f λ i w e.
      on (word_full whole x.a i _ w e l) (rw (known_range _ (agree_within x.a b sizes f.begun.agree))) rest

  -- A later buffer's A and B come before its payload.
  later_begins : {sizes : ℕ} {x : Written} {behind stored : List ℕ} → Fine true b sizes x
      → Writes whole (Payload x.a (host_words x.a) (Known b (sizes + buffer_size x.a))) behind stored
      → Writes whole (CommandA (Known b sizes)) (x.a ∷ b ∷ behind) (x.a ∷ stored)
  unfolding expect_in_range
  later_begins {sizes} {x} f rest =
      let fits : sizes + buffer_size x.a ≤ packet_length b = agree_within x.a b sizes f.begun.agree in
      on (word_a whole (Known b sizes) x.a f.begun.good) (rw (f.begun.good, known_range sizes (omega arith)))
      (on (word_later_b whole x.a b sizes f.begun.agree)
      (payload_range true x.a (host_words x.a) _ f.begun.good fits (host_words_pos true x.a f.begun.good) (omega arith)) rest)

  -- The first buffer's A and B come before its payload.
  first_begins : {x : Written} {behind stored : List ℕ} → Fine false b 0 x
      → Writes whole (Payload x.a (host_words x.a) (Known b (0 + buffer_size x.a))) behind stored
      → Writes whole (CommandA Closed) (x.a ∷ b ∷ behind) (x.a ∷ b ∷ stored)
  unfolding expect_in_range
  first_begins {x} f rest =
      let fits : 0 + buffer_size x.a ≤ packet_length b = agree_within x.a b 0 f.begun.agree in
      on (word_a whole Closed x.a f.begun.good) (rw f.begun.good)
      (on (word_first_b whole x.a b long f.begun.agree)
      (payload_range false x.a (host_words x.a) _ f.begun.good (omega arith) (host_words_pos false x.a f.begun.good) (omega arith))
      (rw zero-add at rest))

  -- The words of later buffers, up to the Last one.
  later_writes : {sizes : ℕ} {xs : List Written} → Ended true b sizes xs → Writes whole (CommandA (Known b sizes)) (buffers_writes b xs) (laid_later xs)
  unfolding buffers_writes laid_later
  later_writes (Ended.last f l) = later_begins f (last_writes f l)
  later_writes (Ended.more f l rest) = later_begins f (more_writes f l (later_writes rest))

  -- The words of all buffers.
  all_write : {xs : List Written} → Ended false b 0 xs → Writes whole (CommandA Closed) (buffers_writes b xs) (laid_first b xs)
  unfolding buffers_writes laid_first laid_later
  all_write (Ended.last f l) = first_begins f (last_writes f l)
  all_write (Ended.more f l rest) = first_begins f (more_writes f l (later_writes rest))

-- The words of a good packet are accepted one after the other, and the last makes it whole.
pub packet_writes : (whole : ℕ) (p : Whole) → GoodWhole p → Writes whole (CommandA Closed) (host_writes p) (laid p)
packet_writes whole p good = all_write whole p.b good.long good.ended

-- ---- a port that is fed with them

-- what it gives to feed a port with words that are all accepted, of which the last makes a packet whole
abbrev accepted : (whole : ℕ) (ws stored : List ℕ) → Fed
accepted whole ws stored = record { port = clear (CommandA Closed) (whole + 1); stored = stored; answers = replicate (length ws) (Ok 0) }

-- A port that is fed with accepted words accepts them, where there is room for what is stored.
fed : {whole : ℕ} {e : Expect} {ws stored : List ℕ} (room : ℕ) → Writes whole e ws stored → length stored ≤ room
    → feed room (clear e whole) ws ≡ accepted whole ws stored
unfolding feed
fed room (ends (thrown t)) h = rw (t (ltb 0 room))
fed room (ends (lays t)) h = rw (lt-ltb 0 room (omega arith), t)
fed room (on (thrown t) r rest) h = rw (t (ltb 0 room), sub-zero room, fed room rest h)
fed room (on (lays t) r rest) h = rw (lt-ltb 0 room (omega arith), t, fed (room - 1) rest (omega arith))

-- A port that expects an A with no packet open accepts all words of a good packet that TX data has room for, lays them, and has one more whole packet.
pub packet_fed : (p : Whole) (port : Port) (room : ℕ) → GoodWhole p → port.expect ≡ CommandA Closed → port.failed ≡ false → length (laid p) ≤ room
    → feed room port (host_writes p)
    ≡ record {
      port = record { expect = CommandA Closed; failed = false; whole = port.whole + 1 };
      stored = laid p;
      answers = replicate (length (host_writes p)) (Ok 0);
    }
packet_fed p port room good e f h =
    let same : port ≡ clear (CommandA Closed) port.whole = λ i. record { expect = e i; failed = f i; whole = port.whole } in
    ap (λ (q : Port). feed room q (host_writes p)) same ∙ fed room (packet_writes port.whole p good) h
