-- The marks of an RX status. Paper 01, An arriving frame, "RX status".
--   kind_of r head         what the destination says: the filter said no, broadcast, group and no broadcast
--   marks_of               the marks, from that, the length or type V, the length, the flags and a bad FCS
-- Assumes nothing.
use Rattle.std.specs.Prelude.{ℕ, Bool, not, ◌&&◌, List, nat_lt}
use Rattle.paper.specs.declared.Registers.{Registers}
use Rattle.paper.specs.Words.{bit}
use Rattle.paper.specs.Filter.{is_broadcast, is_group, passes}
use Rattle.paper.specs.Status.{wrong_length}
use Rattle.words.specs.declared.status.Marks.{Marks}
use Rattle.receive.specs.declared.status.Kind.{Kind}

-- 01: "30: the filter said no (RXALL).", "13: broadcast. 10: group, not broadcast (ours)."
abbrev pub kind_of : Registers → (head : List ℕ) → Kind
kind_of r head =
    record { miss = not (passes r head); broadcast = is_broadcast head; group = is_group head && not (is_broadcast head) }

-- 01: "12: V is at most 1,500 and ..", "11: L < 64. 7: L > 1,518. 5: V > 1,500.", "6, 3, 2: the flags."
abbrev pub marks_of : Kind → (v len flags : ℕ) → (badfcs : Bool) → Marks
marks_of k v len flags badfcs =
    record {
      miss = k.miss;
      broadcast = k.broadcast;
      wronglength = wrong_length v len;
      runt = nat_lt len 64;
      group = k.group;
      long = nat_lt 1518 len;
      collision = bit 6 flags;
      typed = nat_lt 1500 v;
      mii = bit 3 flags;
      dribble = bit 2 flags;
      badfcs = badfcs;
    }
