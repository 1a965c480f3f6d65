-- The text of the metrics.
use Rattle.std.specs.Prelude.{ℕ, List, [], ◌∷◌, ◌++◌, codes, decimal, flat_map}
use Rattle.rv_status.specs.declared.metrics.QueueSide.{QueueSide}
use Rattle.rv_status.specs.declared.metrics.QueueSide.TheVariants.{Items, Consumers}
use Rattle.rv_status.specs.declared.histogram.Histogram.{Histogram}
use Rattle.rv_status.specs.declared.numbers.MetricKind.{MetricKind}
use Rattle.rv_status.specs.declared.numbers.MetricKind.TheVariants.{Gauge, Histogram as HistogramKind}
use Rattle.rv_status.specs.declared.status.HostStatus.{HostStatus}
use Rattle.rv_status.specs.declared.status.QueueRow.{QueueRow}
use Rattle.rv_status.specs.declared.status.StatusTimes.{StatusTimes}
use Rattle.rv_status.specs.Histograms.{values_text}
use Rattle.rv_status.specs.Rows.{MetricRow, kind_word, number_rows}

-- two lines, each ending with LF (10): what a name means, and its kind
abbrev pub family_head : List ℕ → List ℕ → MetricKind → List ℕ
family_head name help kind =
    codes "# HELP " ++ (name ++ (codes " " ++ (help ++ ((10 ∷ codes "# TYPE ") ++ (name
    ++ (codes " " ++ (kind_word kind ++ 10 ∷ [])))))))

-- a name and its value
abbrev pub value_text : List ℕ → ℕ → List ℕ
value_text name value = name ++ (codes " " ++ (decimal value ++ 10 ∷ []))

abbrev pub row_text : MetricRow → List ℕ
row_text r = family_head r.name r.help r.kind ++ value_text r.name r.value

abbrev pub side_name : QueueSide → List ℕ
side_name Items = codes "rv_queue_items"
side_name Consumers = codes "rv_queue_consumers"

abbrev pub side_help : QueueSide → List ℕ
side_help Items = codes "Items that wait."
side_help Consumers = codes "Consumers that wait."

abbrev pub value_on : QueueSide → QueueRow → ℕ
value_on Items row = row.items
value_on Consumers row = row.consumers

-- the queue's number between quotation marks (34), and how many wait on that side
abbrev pub labelled_text : QueueSide → QueueRow → List ℕ
labelled_text side row =
    side_name side ++ ((codes "{queue=" ++ 34 ∷ []) ++ (decimal row.queue
    ++ ((34 ∷ codes "} ") ++ (decimal (value_on side row) ++ 10 ∷ []))))

abbrev pub family_text : QueueSide → List QueueRow → List ℕ
family_text side rows = family_head (side_name side) (side_help side) Gauge ++ flat_map (labelled_text side)
    rows

abbrev pub histogram_text : List ℕ → List ℕ → Histogram → List ℕ
histogram_text name help h = family_head name help HistogramKind ++ values_text name h

-- how long turns and answers took
abbrev pub times_text : StatusTimes → List ℕ
times_text times =
    histogram_text (codes "rv_turn_seconds")
    (codes "How long turns took, from the end of their poll to their end.") times.turns
    ++ histogram_text (codes "rv_answer_seconds")
    (codes "How long requests stood first of their connection until their answer left.") times.answers

-- the version between quotation marks (34), as a label of 1
abbrev pub version_text : List ℕ → List ℕ
version_text version =
    codes "rv_build_info" ++ ((codes "{version=" ++ 34 ∷ []) ++ (version ++ ((34 ∷ codes "} 1") ++ 10 ∷ [])))

abbrev pub build_text : List ℕ → List ℕ
build_text version =
    family_head (codes "rv_build_info") (codes "The version of this build.") Gauge ++ version_text version

-- all numbers, then the items and the consumers of each queue
abbrev pub families_text : HostStatus → List ℕ
families_text s =
    flat_map row_text (number_rows s.numbers)
    ++ (family_text Items s.queues.items ++ family_text Consumers s.queues.items)

-- the times, and the build
abbrev pub others_text : HostStatus → List ℕ
others_text s = times_text s.times ++ build_text s.version.now

abbrev pub metrics_text : HostStatus → List ℕ
metrics_text s = families_text s ++ others_text s
