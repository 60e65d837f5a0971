-- Every call keeps the invariant: after any call the world is as the ledger says that has noted the call and its answer. Assumes nothing.
use Rattle.paper.specs.Calls.{Call, Reset, MacWrite, MacRead, SetSplit, Split, RxFifoInf, TxFifoInf, RxDrop, DumpTxData, DumpTxStatus, DumpRx, Arrive, RxDataRead, RxStatusPop, RxStatusPeek, TxWord, Send, TxStatusPop, TxStatusPeek}
use Rattle.paper.specs.Machine.{World, after, answer}
use Rattle.paper.specs.Ledger.{Ledger, note}
use Rattle.paper.proofs.Kept.{Kept}
use Rattle.paper.proofs.KeptCalls.{kept_mac_write, kept_mac_read, kept_split, kept_rx_fifo_inf, kept_tx_fifo_inf, kept_rx_drop}
use Rattle.paper.proofs.KeptCalls.{kept_rx_data_read, kept_rx_status_pop, kept_rx_status_peek, kept_tx_status_pop, kept_tx_status_peek}
use Rattle.paper.proofs.KeptRestarts.{kept_reset, kept_set_split, kept_dump_tx_data, kept_dump_tx_status, kept_dump_rx}
use Rattle.paper.proofs.KeptArrive.{kept_arrive}
use Rattle.paper.proofs.KeptWord.{kept_tx_word}
use Rattle.paper.proofs.KeptSend.{kept_send}

pub kept_step : {l : Ledger} {w : World} (c : Call) → Kept l w → Kept (note c (answer c w) l) (after c w)
kept_step Reset h = kept_reset h
kept_step (MacWrite k v) h = kept_mac_write k v h
kept_step (MacRead k) h = kept_mac_read k h
kept_step (SetSplit n) h = kept_set_split n h
kept_step Split h = kept_split h
kept_step RxFifoInf h = kept_rx_fifo_inf h
kept_step TxFifoInf h = kept_tx_fifo_inf h
kept_step RxDrop h = kept_rx_drop h
kept_step DumpTxData h = kept_dump_tx_data h
kept_step DumpTxStatus h = kept_dump_tx_status h
kept_step DumpRx h = kept_dump_rx h
kept_step (Arrive frame flags) h = kept_arrive frame flags h
kept_step RxDataRead h = kept_rx_data_read h
kept_step RxStatusPop h = kept_rx_status_pop h
kept_step RxStatusPeek h = kept_rx_status_peek h
kept_step (TxWord word) h = kept_tx_word word h
kept_step (Send outcome out) h = kept_send outcome out h
kept_step TxStatusPop h = kept_tx_status_pop h
kept_step TxStatusPeek h = kept_tx_status_peek h
