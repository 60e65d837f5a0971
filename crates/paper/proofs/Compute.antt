-- Opening the definitions for a theorem that is computed: a proof that says `unfolding everything` sees through all that is shut in specs/.
-- Assumes nothing.
use Rattle.paper.specs.Words.{gathered, series, bytes_of, same}
use Rattle.paper.specs.Memory.{waiting, put_all, ring_after, memory_after, waiting_after}
use Rattle.paper.specs.Registers.{settings, read_register, write_register, good_registers, may_resize}
use Rattle.paper.specs.Checksum.{plus, feed, feeds, bits_of, number_of, wire, generator, crc32, fcs, fcs_fits, hash}
use Rattle.paper.specs.Filter.{passes_rule, passes_setting, passes}
use Rattle.paper.specs.Status.{status}
use Rattle.paper.specs.Arrivals.{data_words, room, arrival}
use Rattle.paper.specs.Transmission.{host_words, good_a, good_length, repeats, sizes_agree, takes_a, takes_b, after_payload, whole_after, takes_payload, takes_expected, port_takes}
use Rattle.paper.specs.Sending.{buffers_from, head_of, sent_bytes, freed, frame_of, tx_status}
use Rattle.paper.specs.Refusals.{expect_in_range, in_range}
use Rattle.paper.specs.Acts.{arrives, sends}
use Rattle.paper.specs.Machine.{waits, decide, apply, act, step, world_after, answers}
use mathlib.Core.Bool.{xor}

unfoldable pub everything : Unit {0}
unfolding xor gathered series bytes_of same waiting put_all ring_after memory_after waiting_after settings read_register write_register good_registers may_resize plus feed feeds bits_of number_of wire generator crc32 fcs fcs_fits hash passes_rule passes_setting passes status data_words room arrival host_words good_a good_length repeats sizes_agree takes_a takes_b after_payload whole_after takes_payload takes_expected port_takes buffers_from head_of sent_bytes freed frame_of tx_status expect_in_range in_range arrives sends waits decide apply act step world_after answers
everything = tt
