-- FCS and hash vectors: the customary check value of the standard's CRC-32, and others from outside programs (zlib's crc32; a shift register for the hash).
-- Computed. Assumes nothing.
use mathlib.Core.Path.{◌≡◌, refl}
use mathlib.Core.Bool.{true, false}
use mathlib.Core.List.{[], ◌∷◌, ◌++◌, map}
use Rattle.paper.specs.Checksum.{fcs, fcs_fits, hash}
use Rattle.paper.proofs.Compute.{everything}
use Rattle.paper.proofs.Samples.{us, everybody, front60, frame65}

-- The check value of the CRC-32 of 802.3, that of the bytes "123456789".
pub fcs_check_value : fcs (49 ∷ 50 ∷ 51 ∷ 52 ∷ 53 ∷ 54 ∷ 55 ∷ 56 ∷ 57 ∷ []) ≡ 0xCBF4_3926
unfolding everything
fcs_check_value = refl

-- The FCS of 60 bytes, which are those of a frame of 64.
pub fcs_of_a_whole_frame : fcs front60 ≡ 0x7E7A_3492
unfolding everything
fcs_of_a_whole_frame = refl

-- A good frame fits; one with a wrong last byte, one of three bytes and none at all do not.
pub fits_vectors : map fcs_fits (frame65 ∷ (front60 ++ (146 ∷ 52 ∷ 122 ∷ 127 ∷ [])) ∷ (0 ∷ 0 ∷ 0 ∷ []) ∷ [] ∷ []) ≡ true ∷ false ∷ false ∷ false ∷ []
unfolding everything
fits_vectors = refl

-- The six-bit hashes of group addresses, of an individual address and of the broadcast address.
pub hash_vectors :
    map hash
    ((0x01 ∷ 0x00 ∷ 0x5E ∷ 0x00 ∷ 0x00 ∷ 0x01 ∷ [])
    ∷ (0x01 ∷ 0x00 ∷ 0x5E ∷ 0x00 ∷ 0x00 ∷ 0xFB ∷ [])
    ∷ (0x33 ∷ 0x33 ∷ 0x00 ∷ 0x00 ∷ 0x00 ∷ 0x01 ∷ [])
    ∷ (0x01 ∷ 0x80 ∷ 0xC2 ∷ 0x00 ∷ 0x00 ∷ 0x00 ∷ [])
    ∷ us
    ∷ everybody
    ∷ [])
    ≡ 31 ∷ 15 ∷ 62 ∷ 25 ∷ 49 ∷ 63 ∷ []
unfolding everything
hash_vectors = refl
