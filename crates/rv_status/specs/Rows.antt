-- The rows of a server's numbers: each number's name, kind, meaning and value.
use Rattle.std.specs.Prelude.{ℕ, List, [], ◌∷◌, codes, replicate, slice_index}
use Rattle.rv_status.specs.declared.numbers.FaultCounts.{FaultCounts}
use Rattle.rv_status.specs.declared.numbers.MetricKind.{MetricKind}
use Rattle.rv_status.specs.declared.numbers.MetricKind.TheVariants.{Counter, Gauge, Histogram}
use Rattle.rv_status.specs.declared.numbers.StatusReading.{StatusReading}
use Rattle.rv_status.specs.declared.numbers.StatusNumbers.{StatusNumbers}

pub record MetricRow : Type 0 where
  pub name : List ℕ
  pub kind : MetricKind
  pub help : List ℕ
  pub value : ℕ

abbrev pub kind_word : MetricKind → List ℕ
kind_word Counter = codes "counter"
kind_word Gauge = codes "gauge"
kind_word Histogram = codes "histogram"

-- what a reading says
abbrev pub reading_row : StatusReading → MetricRow
reading_row r = record { name = r.name.now; kind = r.kind; help = r.help.now; value = r.value }

abbrev pub counter_row : List ℕ → List ℕ → ℕ → MetricRow
counter_row name help value = record { name = name; kind = Counter; help = help; value = value }

abbrev pub gauge_row : List ℕ → List ℕ → ℕ → MetricRow
gauge_row name help value = record { name = name; kind = Gauge; help = help; value = value }

-- all numbers, in the byte order of their names
abbrev pub number_rows : StatusNumbers → List MetricRow
number_rows n =
    counter_row (codes "rv_account_bytes_total")
    (codes "Bytes written to the account file, none without one.") n.account_bytes ∷
    gauge_row (codes "rv_buffer_bytes")
    (codes "Bytes held for all connections.") n.buffer_bytes ∷
    gauge_row (codes "rv_buffer_limit_bytes")
    (codes "Bytes above which the connection that holds most is closed.") n.buffer_limit ∷
    counter_row (codes "rv_calls_count_total")
    (codes "Counts that were recorded, each once.") (slice_index n.calls 0) ∷
    counter_row (codes "rv_calls_drain_total")
    (codes "Drains that were recorded, each once.") (slice_index n.calls 1) ∷
    counter_row (codes "rv_calls_peek_total")
    (codes "Peeks that were recorded, each once.") (slice_index n.calls 2) ∷
    counter_row (codes "rv_calls_put_total")
    (codes "Puts that were recorded, each once.") (slice_index n.calls 3) ∷
    counter_row (codes "rv_calls_swap_total")
    (codes "Swaps that were recorded, each once.") (slice_index n.calls 4) ∷
    counter_row (codes "rv_calls_take_total")
    (codes "Takes that were recorded, each once.") (slice_index n.calls 5) ∷
    counter_row (codes "rv_calls_transfer_total")
    (codes "Transfers that were recorded, each once.") (slice_index n.calls 6) ∷
    gauge_row (codes "rv_clients")
    (codes "Clients that said hello in this epoch.") n.clients ∷
    gauge_row (codes "rv_clients_limit")
    (codes "How many clients an epoch takes.") n.clients_limit ∷
    gauge_row (codes "rv_connections")
    (codes "Connections that are open.") n.connections ∷
    gauge_row (codes "rv_connections_limit")
    (codes "How many connections may be open.") n.connections_limit ∷
    counter_row (codes "rv_connections_opened_total")
    (codes "Connections that were accepted.") n.connections_opened ∷
    counter_row (codes "rv_entries_total")
    (codes "Entries of the account: hellos, requests, cancels, and moments at which waits ended.")
    n.entries ∷
    gauge_row (codes "rv_epoch")
    (codes "The epoch, which is one start of the server.") n.epoch ∷
    counter_row (codes "rv_fault_accept_total")
    (codes "Accepts that failed.") n.faults.accept ∷
    counter_row (codes "rv_fault_account_total")
    (codes "Looks, one a second, that found the account file removed, renamed or cut.") n.faults.account ∷
    counter_row (codes "rv_fault_address_total")
    (codes "Connections closed since their address had as many as it may.") n.faults.address ∷
    counter_row (codes "rv_fault_clock_total")
    (codes "Turns in which the clock could not be read, so that time stood still.") n.faults.clock ∷
    counter_row (codes "rv_fault_descriptor_total")
    (codes "Accepts for which no descriptor was left.") n.faults.descriptor ∷
    counter_row (codes "rv_fault_idle_total")
    (codes "Connections closed since they said nothing and waited for nothing.") n.faults.idle ∷
    counter_row (codes "rv_fault_line_total")
    (codes "Lines that standard error did not take.") n.faults.line ∷
    counter_row (codes "rv_fault_link_total")
    (codes "Connections that broke.") n.faults.link ∷
    counter_row (codes "rv_fault_memory_total")
    (codes "Connections that found no memory.") n.faults.memory ∷
    counter_row (codes "rv_fault_most_held_total")
    (codes "Connections closed since they held most when all held too much.") n.faults.most_held ∷
    counter_row (codes "rv_fault_stall_total")
    (codes "Connections closed in the middle of a frame, or since their peer took no answer.")
    n.faults.stall ∷
    counter_row (codes "rv_fault_unwritten_total")
    (codes "Turns in which lines of the account found no memory.") n.faults.unwritten ∷
    gauge_row (codes "rv_open_places")
    (codes "Items and requests that are open.") n.open_places ∷
    gauge_row (codes "rv_open_places_limit")
    (codes "How many items and requests may be open.") n.open_places_limit ∷
    counter_row (codes "rv_refused_bad_text_total")
    (codes "Refusals 1 that left: bodies that are no message.") (slice_index n.answers 0) ∷
    counter_row (codes "rv_refused_busy_total")
    (codes "Refusals 7 that left: requests while another one of the client waits.")
    (slice_index n.answers 6) ∷
    counter_row (codes "rv_refused_clients_full_total")
    (codes "Refusals 9 that left: hellos of new clients where there are --clients.")
    (slice_index n.answers 8) ∷
    counter_row (codes "rv_refused_epoch_full_total")
    (codes "Refusals 10 that left: requests for which no room is left (--open).")
    (slice_index n.answers 9) ∷
    counter_row (codes "rv_refused_gap_total")
    (codes "Refusals 8 that left: requests and cancels whose number leaves one out.")
    (slice_index n.answers 7) ∷
    counter_row (codes "rv_refused_no_memory_total")
    (codes "Refusals 11 that left: messages for which memory was refused.") (slice_index n.answers 10) ∷
    counter_row (codes "rv_refused_no_session_total")
    (codes "Refusals 3 that left: messages of a client with no session.") (slice_index n.answers 2) ∷
    counter_row (codes "rv_refused_old_incarnation_total")
    (codes "Refusals 4 that left: messages of an earlier incarnation.") (slice_index n.answers 3) ∷
    counter_row (codes "rv_refused_old_number_total")
    (codes "Refusals 5 that left: requests and cancels of an earlier number.") (slice_index n.answers 4) ∷
    counter_row (codes "rv_refused_other_call_total")
    (codes "Refusals 6 that left: requests of the last number with another call.")
    (slice_index n.answers 5) ∷
    counter_row (codes "rv_refused_other_epoch_total")
    (codes "Refusals 2 that left: messages of another epoch.") (slice_index n.answers 1) ∷
    counter_row (codes "rv_refused_other_version_total")
    (codes "Refusals 12 that left: hellos of another version than the session's.")
    (slice_index n.answers 11) ∷
    gauge_row (codes "rv_requests_unheard")
    (codes "Requests that wait with no connection of their client.") n.requests_unheard ∷
    gauge_row (codes "rv_requests_waiting")
    (codes "Requests that wait.") n.requests_waiting ∷
    gauge_row (codes "rv_status_connections")
    (codes "Connections to this page that are open.") n.status_connections ∷
    counter_row (codes "rv_told_cancelled_total")
    (codes "Answers that left: that a request was cancelled.") (slice_index n.answers 12) ∷
    counter_row (codes "rv_told_counted_total")
    (codes "Answers that left: how many items and consumers there are.") (slice_index n.answers 13) ∷
    counter_row (codes "rv_told_done_total")
    (codes "Answers that left: that an item was put.") (slice_index n.answers 14) ∷
    counter_row (codes "rv_told_drained_total")
    (codes "Answers that left: items that were drained.") (slice_index n.answers 15) ∷
    counter_row (codes "rv_told_empty_total")
    (codes "Answers that left: that nothing was there.") (slice_index n.answers 16) ∷
    counter_row (codes "rv_told_item_total")
    (codes "Answers that left: an item.") (slice_index n.answers 17) ∷
    counter_row (codes "rv_told_nobody_total")
    (codes "Answers that left: that nobody took an item.") (slice_index n.answers 18) ∷
    counter_row (codes "rv_told_peeked_total")
    (codes "Answers that left: an item that stays.") (slice_index n.answers 19) ∷
    counter_row (codes "rv_told_received_total")
    (codes "Answers that left: that an item was received.") (slice_index n.answers 20) ∷
    counter_row (codes "rv_told_swapped_total")
    (codes "Answers that left: an item that was swapped.") (slice_index n.answers 21) ∷
    counter_row (codes "rv_told_timed_out_total")
    (codes "Answers that left: that a wait timed out.") (slice_index n.answers 22) ∷
    counter_row (codes "rv_told_waiting_total")
    (codes "Answers that left: that a request still waits.") (slice_index n.answers 23) ∷
    gauge_row (codes "rv_uptime_seconds")
    (codes "Seconds since the start.") n.uptime ∷
    []

-- those of a server that begins, with these limits and faults
abbrev pub first_numbers : ℕ → ℕ → FaultCounts → StatusNumbers
first_numbers clients_limit open_places_limit faults = record {
  account_bytes = 0;
  answers = replicate 24 0;
  buffer_bytes = 0;
  buffer_limit = 0;
  calls = replicate 7 0;
  clients = 0;
  clients_limit = clients_limit;
  connections = 0;
  connections_limit = 0;
  connections_opened = 0;
  entries = 0;
  epoch = 0;
  faults = faults;
  open_places = 0;
  open_places_limit = open_places_limit;
  requests_unheard = 0;
  requests_waiting = 0;
  status_connections = 0;
  uptime = 0;
}
