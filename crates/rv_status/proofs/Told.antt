-- Tokens and texts that are written one after another.
use Rattle.std.proofs.Common.{◌≡◌, ℕ, ◌+◌, codes, List, [], ◌∷◌, ◌++◌, map, take, drop, refl, sym, ap, ◌∙◌}
use Rattle.std.proofs.Common.{append_assoc}
use Rattle.std.proofs.Math.Seq.{take-add}
use Rattle.std.proofs.lemmas.Grind.{flat_map-append}
use Rattle.std.specs.Prelude.{flat_map}
use Rattle.json.specs.Print.{print}
use Rattle.json.specs.Token as token
use Rattle.json.specs.Token.{Token, begin_array, begin_object, end_array, end_object, key}
use Rattle.json.specs.Tree.{items_tokens, members_tokens}
use Rattle.serde_json.specs.Data.{Data}
use Rattle.serde_json.specs.View.{items_of}
use Rattle.serde_json.specs.Written.{compact_text, items_outline, members_outline}
use Rattle.serde_json.proofs.Texts.{print-outline}
use Rattle.rv_status.specs.declared.metrics.QueueSide.{QueueSide}
use Rattle.rv_status.specs.declared.metrics.QueueSide.TheVariants.{Items, Consumers}
use Rattle.rv_status.specs.declared.numbers.MetricKind.TheVariants.{Gauge}
use Rattle.rv_status.specs.declared.status.HostStatus.{HostStatus}
use Rattle.rv_status.specs.declared.status.QueueRow.{QueueRow}
use Rattle.rv_status.specs.declared.status.StatusSample.{StatusSample}
use Rattle.rv_status.specs.declared.status.WaitingRow.{WaitingRow}
use Rattle.rv_status.specs.Rows.{MetricRow, number_rows}
use Rattle.rv_status.specs.Texts.{families_text, family_text, family_head, labelled_text, row_text, side_help}
use Rattle.rv_status.specs.Texts.{side_name}
use Rattle.rv_status.specs.Values.{call_word, cell_token, cell_value, request_cells}
use Rattle.rv_status.specs.Values.{list_tokens, number_members, number_tokens, numbers_value}
use Rattle.rv_status.specs.Values.{queue_value}
use Rattle.rv_status.specs.Values.{sample_value, status_value, tokens_of, version_tokens, waiting_value}

-- lists whose first and whose others are the same
pub cons_same : {A : Type 0} {a b : A} {xs ys : List A} → a ≡ b → xs ≡ ys → a ∷ xs ≡ b ∷ ys
cons_same first others = cc

-- one list after another is read as one
pub mapped : {A B C : Type 0} (f : B → List C) (g : A → B) (xs : List A)
    → flat_map (λ x. f (g x)) xs ≡ flat_map f (map g xs)
mapped f g [] = refl
mapped f g (x ∷ xs) = ap (λ rest. f (g x) ++ rest) (mapped f g xs)

-- the rows from a place on come after those before it
pub part_told : {A B C : Type 0} (f : B → List C) (g : A → B) (rows : List B) (from count : ℕ) (part : List A)
    → map g part ≡ take count (drop from rows)
    → (old before after : List C)
    → before ≡ old ++ flat_map f (take from rows)
    → after ≡ before ++ flat_map (λ x. f (g x)) part
    → after ≡ old ++ flat_map f (take (from + count) rows)
part_told f g rows from count part is old before after is_before is_after =
    let front = take from rows in
    let next = take count (drop from rows) in
    is_after
    ∙ ap (λ l. l ++ flat_map (λ x. f (g x)) part) is_before
    ∙ append_assoc old (flat_map f front) (flat_map (λ x. f (g x)) part)
    ∙ ap (λ l. old ++ (flat_map f front ++ l)) (mapped f g part ∙ ap (flat_map f) is)
    ∙ ap (λ l. old ++ l) (sym (flat_map-append f front next)
    ∙ ap (flat_map f) (sym (take-add from count rows)))

items_told : {A : Type 0} (f : A → Data) (rows : List A)
    → items_tokens (items_outline (items_of (map f rows))) ≡ flat_map (λ row. tokens_of (f row)) rows ++
    end_array ∷ []
items_told f [] = refl
items_told f (row ∷ rows) =
    ap (λ rest. tokens_of (f row) ++ rest) (items_told f rows)
    ∙ sym (append_assoc (tokens_of (f row)) (flat_map (λ row. tokens_of (f row)) rows) (end_array ∷ []))

numbers_told : (rows : List MetricRow)
    → members_tokens (members_outline (number_members rows)) ≡ flat_map number_tokens rows ++ end_object ∷ []
numbers_told [] = refl
numbers_told (row ∷ rows) =
    ap (λ rest. number_tokens row ++ rest) (numbers_told rows)
    ∙ sym (append_assoc (number_tokens row) (flat_map number_tokens rows) (end_object ∷ []))

bracketed : {A : Type 0} (old : List A) (name begin end : A) (mid : List A)
    → (((old ++ name ∷ []) ++ begin ∷ []) ++ mid) ++ end ∷ [] ≡ old ++ name ∷ begin ∷ (mid ++ end ∷ [])
bracketed old name begin end mid = simp append_assoc

-- a list that is written token by token is a member
pub list_told : {A : Type 0} (f : A → Data) (rows : List A) (name : List ℕ) (old named begun each ended :
    List Token)
    → named ≡ old ++ key name ∷ []
    → begun ≡ named ++ begin_array ∷ []
    → each ≡ begun ++ flat_map (λ row. tokens_of (f row)) rows
    → ended ≡ each ++ end_array ∷ []
    → ended ≡ old ++ list_tokens name (map f rows)
list_told f rows name old named begun each ended is_named is_begun is_each is_ended =
    let mid = flat_map (λ row. tokens_of (f row)) rows in
    let all : ended ≡ (((old ++ key name ∷ []) ++ begin_array ∷ []) ++ mid) ++ end_array ∷ [] = cc in
    all ∙ bracketed old (key name) begin_array end_array mid
    ∙ ap (λ rest. old ++ key name ∷ begin_array ∷ rest) (sym (items_told f rows))

-- so are the numbers
pub members_told : (rows : List MetricRow) (name : List ℕ) (old named begun each ended : List Token)
    → named ≡ old ++ key name ∷ []
    → begun ≡ named ++ begin_object ∷ []
    → each ≡ begun ++ flat_map number_tokens rows
    → ended ≡ each ++ end_object ∷ []
    → ended ≡ old ++ key name ∷ tokens_of (numbers_value rows)
members_told rows name old named begun each ended is_named is_begun is_each is_ended =
    let mid = flat_map number_tokens rows in
    let all : ended ≡ (((old ++ key name ∷ []) ++ begin_object ∷ []) ++ mid) ++ end_object ∷ [] = cc in
    all ∙ bracketed old (key name) begin_object end_object mid
    ∙ ap (λ rest. old ++ key name ∷ begin_object ∷ rest) (sym (numbers_told rows))

regrouped : {A : Type 0} (old mid : List A) (begin end : A)
    → ((old ++ begin ∷ []) ++ mid) ++ end ∷ [] ≡ old ++ begin ∷ (mid ++ end ∷ [])
regrouped old mid begin end = simp append_assoc

-- a row between its brackets
pub row_told : {A : Type 0} (old begun each ended mid : List A) (begin end : A)
    → begun ≡ old ++ begin ∷ []
    → each ≡ begun ++ mid
    → ended ≡ each ++ end ∷ []
    → ended ≡ old ++ begin ∷ (mid ++ end ∷ [])
row_told old begun each ended mid begin end is_begun is_each is_ended =
    let all : ended ≡ ((old ++ begin ∷ []) ++ mid) ++ end ∷ [] = cc in
    all ∙ regrouped old mid begin end

-- and one that begins by a word
pub worded_told : (word said : List ℕ) → word ≡ said
    → (old begun named each ended mid : List Token)
    → begun ≡ old ++ begin_array ∷ []
    → named ≡ begun ++ token.string word ∷ []
    → each ≡ named ++ mid
    → ended ≡ each ++ end_array ∷ []
    → ended ≡ old ++ begin_array ∷ token.string said ∷ (mid ++ end_array ∷ [])
worded_told word said same old begun named each ended mid is_begun is_named is_each is_ended =
    let all : ended ≡ (((old ++ begin_array ∷ []) ++ token.string word ∷ []) ++ mid) ++ end_array ∷ [] = cc in
    all ∙ bracketed old begin_array (token.string word) end_array mid
    ∙ ap (λ w. old ++ begin_array ∷ token.string w ∷ (mid ++ end_array ∷ [])) same

cells_told : (cells : List ℕ)
    → items_tokens (items_outline (items_of (map cell_value cells))) ≡ map cell_token cells ++ end_array ∷ []
cells_told [] = refl
cells_told (cell ∷ cells) = ap (λ rest. cell_token cell ∷ rest) (cells_told cells)

-- and that of a request, whatever numbers it has
pub request_told : (row : WaitingRow) (word : List ℕ) → word ≡ call_word row.call
    → (old begun named each ended : List Token)
    → begun ≡ old ++ begin_array ∷ []
    → named ≡ begun ++ token.string word ∷ []
    → each ≡ named ++ map cell_token (request_cells row)
    → ended ≡ each ++ end_array ∷ []
    → ended ≡ old ++ tokens_of (waiting_value row)
request_told row word same old begun named each ended is_begun is_named is_each is_ended =
    worded_told word (call_word row.call) same old begun named each ended (map cell_token (request_cells row))
    is_begun is_named is_each is_ended
    ∙ ap (λ rest. old ++ begin_array ∷ token.string (call_word row.call) ∷ rest)
    (sym (cells_told (request_cells row)))

six : {A : Type 0} (old a b c d e f : List A) (begin end : A)
    → (((((((old ++ begin ∷ []) ++ a) ++ b) ++ c) ++ d) ++ e) ++ f) ++ end ∷ []
    ≡ old ++ begin ∷ (a ++ (b ++ (c ++ (d ++ (e ++ (f ++ end ∷ []))))))
six old a b c d e f begin end = simp append_assoc

stacked : {A : Type 0} (old begun ta tb tc td te tf ended a b c d e f : List A) (begin end : A)
    → begun ≡ old ++ begin ∷ []
    → ta ≡ begun ++ a
    → tb ≡ ta ++ b
    → tc ≡ tb ++ c
    → td ≡ tc ++ d
    → te ≡ td ++ e
    → tf ≡ te ++ f
    → ended ≡ tf ++ end ∷ []
    → ended ≡ old ++ begin ∷ (a ++ (b ++ (c ++ (d ++ (e ++ (f ++ end ∷ []))))))
stacked old begun ta tb tc td te tf ended a b c d e f begin end is_begun is_a is_b is_c is_d is_e is_f
    is_ended =
    let all : ended ≡ (((((((old ++ begin ∷ []) ++ a) ++ b) ++ c) ++ d) ++ e) ++ f) ++ end ∷ [] = cc in
    all ∙ six old a b c d e f begin end

-- a status, from the lists that its parts were read off
pub status_told : (s : HostStatus) (history : List StatusSample) → history ≡ s.history.items
    → (queues : List QueueRow) → queues ≡ s.queues.items
    → (unheard : List WaitingRow) → unheard ≡ s.unheard.items
    → (waiting : List WaitingRow) → waiting ≡ s.waiting.items
    → (old begun ta tb tc td te tf ended : List Token)
    → begun ≡ old ++ begin_object ∷ []
    → ta ≡ begun ++ list_tokens (codes "history") (map sample_value history)
    → tb ≡ ta ++ key (codes "numbers") ∷ tokens_of (numbers_value (number_rows s.numbers))
    → tc ≡ tb ++ list_tokens (codes "queues") (map queue_value queues)
    → td ≡ tc ++ list_tokens (codes "unheard") (map waiting_value unheard)
    → te ≡ td ++ version_tokens s.version.now
    → tf ≡ te ++ list_tokens (codes "waiting") (map waiting_value waiting)
    → ended ≡ tf ++ end_object ∷ []
    → ended ≡ old ++ tokens_of (status_value s)
status_told s history h queues q unheard u waiting w old begun ta tb tc td te tf ended
    is_begun is_a is_b is_c is_d is_e is_f is_ended =
    let a = list_tokens (codes "history") (map sample_value s.history.items) in
    let b = key (codes "numbers") ∷ tokens_of (numbers_value (number_rows s.numbers)) in
    let c = list_tokens (codes "queues") (map queue_value s.queues.items) in
    let d = list_tokens (codes "unheard") (map waiting_value s.unheard.items) in
    let e = version_tokens s.version.now in
    let f = list_tokens (codes "waiting") (map waiting_value s.waiting.items) in
    let to_a : ta ≡ begun ++ a = is_a ∙ ap (λ l. begun ++ list_tokens (codes "history") (map sample_value l))
    h in
    let to_c : tc ≡ tb ++ c = is_c ∙ ap (λ l. tb ++ list_tokens (codes "queues") (map queue_value l)) q in
    let to_d : td ≡ tc ++ d = is_d ∙ ap (λ l. tc ++ list_tokens (codes "unheard") (map waiting_value l)) u in
    let to_f : tf ≡ te ++ f = is_f ∙ ap (λ l. te ++ list_tokens (codes "waiting") (map waiting_value l)) w in
    stacked old begun ta tb tc td te tf ended a b c d e f begin_object end_object
    is_begun to_a is_b to_c to_d is_e to_f is_ended

-- what is printed of a value's tokens, after nothing
pub value_told : (d : Data) (before text : List ℕ) (tokens : List Token)
    → text ≡ before ++ print tokens
    → before ≡ []
    → tokens ≡ tokens_of d
    → text ≡ compact_text d
value_told d before text tokens is_text is_before is_tokens =
    is_text ∙ ap (λ front. front ++ print tokens) is_before ∙ ap print is_tokens ∙ print-outline d

-- a side's head and its values
pub family_told : (side : QueueSide) (rows : List QueueRow) (name help : List ℕ)
    → name ≡ side_name side
    → help ≡ side_help side
    → (old first text : List ℕ)
    → first ≡ old ++ family_head name help Gauge
    → text ≡ first ++ flat_map (labelled_text side) rows
    → text ≡ old ++ family_text side rows
family_told side rows name help is_name is_help old first text is_first is_text =
    let head = family_head (side_name side) (side_help side) Gauge in
    let front : first ≡ old ++ head =
    is_first ∙ ap (λ n. old ++ family_head n help Gauge) is_name
    ∙ ap (λ h. old ++ family_head (side_name side) h Gauge) is_help in
    is_text ∙ ap (λ f. f ++ flat_map (labelled_text side) rows) front
    ∙ append_assoc old head (flat_map (labelled_text side) rows)

-- all numbers and both sides, from the lists that they were read off
pub metrics_told : (s : HostStatus)
    → (items : List QueueRow) → items ≡ s.queues.items
    → (consumers : List QueueRow) → consumers ≡ s.queues.items
    → (old first second text : List ℕ)
    → first ≡ old ++ flat_map row_text (number_rows s.numbers)
    → second ≡ first ++ family_text Items items
    → text ≡ second ++ family_text Consumers consumers
    → text ≡ old ++ families_text s
metrics_told s items i consumers k old first second text is_first is_second is_text =
    let a = flat_map row_text (number_rows s.numbers) in
    let b = family_text Items s.queues.items in
    let c = family_text Consumers s.queues.items in
    let to_b : second ≡ first ++ b = is_second ∙ ap (λ l. first ++ family_text Items l) i in
    let to_c : text ≡ second ++ c = is_text ∙ ap (λ l. second ++ family_text Consumers l) k in
    to_c ∙ ap (λ t. t ++ c) to_b ∙ ap (λ t. (t ++ b) ++ c) is_first
    ∙ append_assoc (old ++ a) b c ∙ append_assoc old a (b ++ c)

-- what comes after a head
pub headed : (head rest old first text : List ℕ)
    → first ≡ old ++ head
    → text ≡ first ++ rest
    → text ≡ old ++ (head ++ rest)
headed head rest old first text is_first is_text =
    is_text ∙ ap (λ f. f ++ rest) is_first ∙ append_assoc old head rest

-- what stands between two others
pub between : (front mid behind old first second text : List ℕ)
    → first ≡ old ++ front
    → second ≡ first ++ mid
    → text ≡ second ++ behind
    → text ≡ old ++ (front ++ (mid ++ behind))
between front mid behind old first second text is_first is_second is_text =
    is_text ∙ ap (λ s. s ++ behind) (is_second ∙ ap (λ f. f ++ mid) is_first)
    ∙ append_assoc (old ++ front) mid behind ∙ append_assoc old front (mid ++ behind)
