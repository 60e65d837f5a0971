-- When two ledgers are alike: they differ in the content of frames and in payload words alone.
--   bare l                the ledger with zeros for the bytes of frames and for payload words
--   Alike l l'            their bare ledgers are equal
--   shared                what a ledger and its bare one have in common, ledgers that are alike have in common
--   frames_twice, buffers_twice, packets_twice, taking_twice    what is bare stays so
--   bare_control, bare_taken, bare_length, bare_txstatus, bare_rxstatus    a bare ledger implies the same control state, levels and statuses
-- Assumes nothing.
use mathlib.Core.Path.{◌≡◌, refl, sym, ap, ◌∙◌}
use mathlib.Core.List.{List, [], ◌∷◌, ◌++◌, map, map-map, map-append}
use Prim.Native.Nat.{ℕ}
use lib.ListN.{length, replicate, length-append, length-take, length-drop, length-replicate, length-map}
use Rattle.paper.specs.declared.Fifo.{Fifo}
use Rattle.paper.specs.declared.Fifo.TheVariants.{TxStatus, RxStatus}
use Rattle.paper.specs.Ledger.{Frame, Written, Whole, Taking, Nothing, FirstA, Between, LaterA, Filling, Received, Wrote, Ledger, kept_of, laid_later, laid_first, laid_all, laid_so_far, all_words, put, taken}
use Rattle.paper.proofs.Counts.{data_words-length}
use Rattle.paper.proofs.Kept.{sizes_of, expect_of, control_of}
use Rattle.std.proofs.lemmas.List.{take-map}
use native.Mathlib.Omega.{arith}

-- ---- Content made 0

-- as many zeros as a list has values
abbrev pub zeros : List ℕ → List ℕ
zeros s = replicate (length s) 0

-- a frame with zeros for its bytes, and its status
abbrev pub bare_frame : Frame → Frame
bare_frame f = record { bytes = zeros f.bytes; status = f.status }

-- a buffer with its A, and zeros for its words
abbrev pub bare_buffer : Written → Written
bare_buffer x = record { a = x.a; words = zeros x.words }

-- a packet with its first B, and its buffers bare
abbrev pub bare_packet : Whole → Whole
bare_packet p = record { b = p.b; buffers = map bare_buffer p.buffers }

-- what of a packet is written so far, its buffers bare
unfoldable pub bare_taking : Taking → Taking
bare_taking Nothing = Nothing
bare_taking (FirstA a) = FirstA a
bare_taking (Between b xs) = Between b (map bare_buffer xs)
bare_taking (LaterA b xs a) = LaterA b (map bare_buffer xs) a
bare_taking (Filling b xs a words) = Filling b (map bare_buffer xs) a (zeros words)

-- what was received, the frames bare
abbrev pub bare_received : Received → Received
bare_received x = record { frames = map bare_frame x.frames; read = x.read; popped = x.popped }

-- what was written, the packets bare
abbrev pub bare_wrote : Wrote → Wrote
bare_wrote x = record { packets = map bare_packet x.packets; taking = bare_taking x.taking; sent = x.sent; failed = x.failed }

-- the ledger with zeros for content
unfoldable pub bare : Ledger → Ledger
bare l =
    record { registers = l.registers; dropped = l.dropped; received = bare_received l.received; wrote = bare_wrote l.wrote; confirmed = l.confirmed }

-- two ledgers that differ in content alone
abbrev pub Alike : Ledger → Ledger → Type 0
Alike l l' = bare l ≡ bare l'

-- What is the same of a ledger and of its bare one is the same of ledgers that are alike.
pub shared : {A : Type 0} (m : Ledger → A) → ((x : Ledger) → m (bare x) ≡ m x) → (l l' : Ledger) → Alike l l' → m l ≡ m l'
shared m h l l' e = sym (h l) ∙ ap m e ∙ h l'

-- ---- What is bare stays so

-- Zeros for zeros are those zeros.
zeros_twice : (s : List ℕ) → zeros (zeros s) ≡ zeros s
zeros_twice s = simp length-replicate

-- What changes nothing the second time changes nothing the second time in each element of a list.
map_twice : {A : Type 0} (f : A → A) → ((x : A) → f (f x) ≡ f x) → (xs : List A) → map f (map f xs) ≡ map f xs
map_twice f h [] = refl
map_twice f h (x ∷ xs) = cc (h x, map_twice f h xs)

-- Bare frames are bare.
pub frames_twice : (fs : List Frame) → map bare_frame (map bare_frame fs) ≡ map bare_frame fs
frames_twice = map_twice bare_frame (λ f. rw (zeros_twice f.bytes))

-- Bare buffers are bare.
pub buffers_twice : (xs : List Written) → map bare_buffer (map bare_buffer xs) ≡ map bare_buffer xs
buffers_twice = map_twice bare_buffer (λ x. rw (zeros_twice x.words))

-- Bare packets are bare.
pub packets_twice : (ps : List Whole) → map bare_packet (map bare_packet ps) ≡ map bare_packet ps
packets_twice = map_twice bare_packet (λ p. rw (buffers_twice p.buffers))

-- What is written of a packet, once bare, is bare.
pub taking_twice : (t : Taking) → bare_taking (bare_taking t) ≡ bare_taking t
unfolding bare_taking
taking_twice t = grind (arith, buffers_twice, zeros_twice)

-- ---- A bare ledger implies the same control state, levels and statuses

-- Sizes are those of the buffers' As.
sizes_bare : (xs : List Written) → sizes_of (map bare_buffer xs) ≡ sizes_of xs
unfolding sizes_of
sizes_bare [] = refl
sizes_bare (x ∷ xs) = rw (sizes_bare xs)

-- What the port expects does not depend on content.
expect_bare : (t : Taking) → expect_of (bare_taking t) ≡ expect_of t
unfolding expect_of bare_taking
expect_bare t = grind (arith, sizes_bare, length-replicate)

-- Nor does the control state.
pub bare_control : (l : Ledger) → control_of (bare l) ≡ control_of l
unfolding bare
bare_control l = rw (expect_bare l.wrote.taking, length-map l.wrote.packets bare_packet)

-- Nor does the number of data words of frames.
words_bare : (fs : List Frame) → length (all_words (map bare_frame fs)) ≡ length (all_words fs)
unfolding all_words
words_bare [] = refl
words_bare (f ∷ fs) = simp (length-append, data_words-length, length-replicate, words_bare fs)

-- Nor does the number of words kept of a buffer.
stored_bare : (a : ℕ) (words : List ℕ) → length (kept_of a (zeros words)) ≡ length (kept_of a words)
stored_bare a words = simp (length-take, length-drop, length-replicate)

-- Nor does the number of words laid for later buffers.
later_bare : (xs : List Written) → length (laid_later (map bare_buffer xs)) ≡ length (laid_later xs)
unfolding laid_later
later_bare [] = refl
later_bare (x ∷ xs) = simp (length-append, stored_bare x.a x.words, later_bare xs)

-- Nor does that for all buffers of a packet.
first_bare : (b : ℕ) (xs : List Written) → length (laid_first b (map bare_buffer xs)) ≡ length (laid_first b xs)
unfolding laid_first
first_bare b xs = grind (arith, length-append, stored_bare, later_bare)

-- Nor does that for packets.
all_bare : (ps : List Whole) → length (laid_all (map bare_packet ps)) ≡ length (laid_all ps)
unfolding laid_all
all_bare [] = refl
all_bare (p ∷ ps) = simp (length-append, first_bare p.b p.buffers, all_bare ps)

-- Nor does that for the packet that is being written.
so_far_bare : (t : Taking) → length (laid_so_far (bare_taking t)) ≡ length (laid_so_far t)
unfolding laid_so_far bare_taking
so_far_bare Nothing = refl
so_far_bare (FirstA a) = refl
so_far_bare (Between b xs) = first_bare b xs
so_far_bare (LaterA b xs a) = simp (length-append, first_bare b xs)
so_far_bare (Filling b xs a words) =
    let open-one : List Written = record { a = a; words = words } ∷ [] in
    ap (λ ys. length (laid_first b ys)) (sym (map-append bare_buffer xs open-one)) ∙ first_bare b (xs ++ open-one)

-- The words taken do not depend on content.
pub bare_taken : (f : Fifo) (l : Ledger) → taken f (bare l) ≡ taken f l
unfolding taken bare
bare_taken f l = grind (arith, take-map, all_bare)

-- Nor do the statuses put into TX status.
pub bare_txstatus : (l : Ledger) → put TxStatus (bare l) ≡ put TxStatus l
unfolding put bare
bare_txstatus l = refl

-- Nor do those put into RX status.
pub bare_rxstatus : (l : Ledger) → put RxStatus (bare l) ≡ put RxStatus l
unfolding put bare
bare_rxstatus l = map-map (λ (f : Frame). f.status) bare_frame l.received.frames

-- Nor does the number of words put.
pub bare_length : (f : Fifo) (l : Ledger) → length (put f (bare l)) ≡ length (put f l)
unfolding put bare
bare_length f l = grind (arith, length-append, all_bare, so_far_bare, words_bare, bare_rxstatus)
