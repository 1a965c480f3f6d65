-- Values, and the rows that they are.
use Rattle.std.proofs.Common.{◌≡◌, ◌∙◌, ◌<◌, ◌∷◌, ℕ, [], IsSome, List, None, Option, Some, ap, arith}
use Rattle.std.proofs.Common.{get_or, length, map, option_and_then, option_to_list, refl, sym}
use Rattle.std.proofs.lemmas.Bool.{false≢true}
use Rattle.std.proofs.lemmas.List.{get_or-map, length-map}
use Rattle.std.proofs.lemmas.List.Elements.{All-get_or}
use Rattle.std.proofs.lemmas.Option.{same_Some}
use Rattle.serde_json.specs.Data.{Data, Items, array, boolean, float, negative, null, number, object, string}
use Rattle.serde_json.specs.Data.{unsigned}
use Rattle.serde_json.specs.Find.{as_array, as_number, as_str, as_u64}
use Rattle.serde_json.specs.View.{items_of, items_view, view}
use Rattle.serde_json.specs.declared.value.Value.{Value}
use Rattle.rv_status.specs.Values.{call_word, cell_value, listed, request_cells, waiting_value}
use Rattle.rv_status.specs.declared.status.CallKind.TheVariants.{Take}
use Rattle.rv_status.specs.declared.status.WaitingRow.{WaitingRow}
use Rattle.rv_end.specs.Told.{AreRows, IsKeyed, IsRow}

-- ---- what a value is, by what is found in it

pub number_is : (v : Data) (n : ℕ) → option_and_then as_u64 (as_number v) ≡ Some n → v ≡ number (unsigned n)
number_is (number (unsigned m)) n same = ap (λ (k : ℕ). number (unsigned k)) (same_Some _ _ same)
number_is (number (negative z)) n same = absurd (cc same)
number_is (number (float x)) n same = absurd (cc same)
number_is null n same = absurd (cc same)
number_is (boolean b) n same = absurd (cc same)
number_is (string s) n same = absurd (cc same)
number_is (array ds) n same = absurd (cc same)
number_is (object ms) n same = absurd (cc same)

pub word_is : (v : Data) (s : List ℕ) → as_str v ≡ Some s → v ≡ string s
word_is (string t) s same = ap string (same_Some _ _ same)
word_is null s same = absurd (cc same)
word_is (boolean b) s same = absurd (cc same)
word_is (number n) s same = absurd (cc same)
word_is (array ds) s same = absurd (cc same)
word_is (object ms) s same = absurd (cc same)

pub array_is : (v : Data) (ds : Items) → Some ds ≡ as_array v → v ≡ array ds
array_is (array es) ds same = ap array (sym (same_Some _ _ same))
array_is null ds same = absurd (cc same)
array_is (boolean b) ds same = absurd (cc same)
array_is (number n) ds same = absurd (cc same)
array_is (string s) ds same = absurd (cc same)
array_is (object ms) ds same = absurd (cc same)

items_same : (xs ys : List Data) → items_of xs ≡ items_of ys → xs ≡ ys
items_same [] [] same = refl
items_same [] (y ∷ ys) same = absurd (cc same)
items_same (x ∷ xs) [] same = absurd (cc same)
items_same (x ∷ xs) (y ∷ ys) same =
    let first : x ≡ y = cc in
    let others : items_of xs ≡ items_of ys = cc in
    (λ i. first i ∷ items_same xs ys others i)

-- ---- the cells of a row

abbrev cells_of : WaitingRow → List Data
cells_of row = string (call_word row.call) ∷ map cell_value (request_cells row)

module _ (value : Data) (xs : List Value) (row : WaitingRow) (are : Some (items_view xs) ≡ as_array value)
    (is : IsRow value row) where
  same_cells : map view xs ≡ cells_of row
  same_cells = items_same _ _ (same_Some _ _ (are ∙ ap as_array is.is))

  six : (unheard : Option ℕ) (a b c d e : ℕ) → IsSome unheard
      → length (map cell_value (a ∷ b ∷ c ∷ d ∷ e ∷ option_to_list unheard)) ≡ 6
  six None a b c d e told = absurd (false≢true told)
  six (Some moment) a b c d e told = refl

  pub seven_cells : length xs ≡ 7
  seven_cells =
      let cells : length (map view xs) ≡ length (cells_of row) = ap length same_cells in
      let others = six row.unheard row.at row.since row.client row.incarnation row.number is.keyed.since in
      omega (arith, cells, others, length-map xs view)

  cell_at : (k : ℕ) (a : Value) → k < 7 → a ≡ get_or xs k a → view a ≡ get_or (cells_of row) k (view a)
  cell_at k a within item =
      let inside : k < length xs = omega (arith, within, seven_cells) in
      ap view item ∙ sym (get_or-map view xs k a (view a) inside)
      ∙ ap (λ cells. get_or cells k (view a)) same_cells

  pub client_told : (a : Value) → a ≡ get_or xs 3 a
      → option_and_then as_u64 (as_number (view a)) ≡ Some row.client
  client_told a item = let within : 3 < 7 = omega arith in
      ap (λ v. option_and_then as_u64 (as_number v)) (cell_at 3 a within item)

  pub incarnation_told : (a : Value) → a ≡ get_or xs 4 a
      → option_and_then as_u64 (as_number (view a)) ≡ Some row.incarnation
  incarnation_told a item = let within : 4 < 7 = omega arith in
      ap (λ v. option_and_then as_u64 (as_number v)) (cell_at 4 a within item)

-- seven values are those at their places
seven : (xs : List Value) (a b c d e f g : Value) → length xs ≡ 7
    → a ≡ get_or xs 0 a → b ≡ get_or xs 1 b → c ≡ get_or xs 2 c → d ≡ get_or xs 3 d → e ≡ get_or xs 4 e
    → f ≡ get_or xs 5 f → g ≡ get_or xs 6 g → xs ≡ a ∷ b ∷ c ∷ d ∷ e ∷ f ∷ g ∷ []
seven (p ∷ q ∷ r ∷ s ∷ t ∷ u ∷ v ∷ []) a b c d e f g count is_a is_b is_c is_d is_e is_f is_g =
    (λ i. sym is_a i ∷ sym is_b i ∷ sym is_c i ∷ sym is_d i ∷ sym is_e i ∷ sym is_f i ∷ sym is_g i ∷ [])
seven xs a b c d e f g count is_a is_b is_c is_d is_e is_f is_g = absurd (omega (arith, count))

-- a row whose cells were read one by one
pub row_read : (value : Data) (xs : List Value) (a b c d e f g : Value) (row : WaitingRow) (since : ℕ)
    → row.unheard ≡ Some since → Some (items_view xs) ≡ as_array value → length xs ≡ 7
    → a ≡ get_or xs 0 a → b ≡ get_or xs 1 b → c ≡ get_or xs 2 c → d ≡ get_or xs 3 d → e ≡ get_or xs 4 e
    → f ≡ get_or xs 5 f → g ≡ get_or xs 6 g
    → as_str (view a) ≡ Some (call_word row.call)
    → option_and_then as_u64 (as_number (view b)) ≡ Some row.at
    → option_and_then as_u64 (as_number (view c)) ≡ Some row.since
    → option_and_then as_u64 (as_number (view d)) ≡ Some row.client
    → option_and_then as_u64 (as_number (view e)) ≡ Some row.incarnation
    → option_and_then as_u64 (as_number (view f)) ≡ Some row.number
    → option_and_then as_u64 (as_number (view g)) ≡ Some since
    → value ≡ waiting_value row
row_read value xs a b c d e f g row since told are count is_a is_b is_c is_d is_e is_f is_g call at arrival
    client incarnation last alone =
    array_is value (items_view xs) are
    ∙ ap (λ ys. array (items_of (map view ys)))
    (seven xs a b c d e f g count is_a is_b is_c is_d is_e is_f is_g)
    ∙ (λ i. array (items_of (word_is (view a) _ call i ∷ number_is (view b) _ at i
    ∷ number_is (view c) _ arrival i ∷ number_is (view d) _ client i ∷ number_is (view e) _ incarnation i
    ∷ number_is (view f) _ last i ∷ number_is (view g) _ alone i ∷ [])))
    ∙ ap (λ unheard. array (items_of (string (call_word row.call) ∷ map cell_value
    (row.at ∷ row.since ∷ row.client ∷ row.incarnation ∷ row.number ∷ option_to_list unheard)))) (sym told)

-- ---- lists of rows

pub rows_told : (found : Option Data) (values : List Value) (rows : List WaitingRow)
    → Some (items_view values) ≡ option_and_then as_array found
    → found ≡ Some (listed (map waiting_value rows)) → map view values ≡ map waiting_value rows
rows_told found values rows are is = items_same _ _ (same_Some _ _ (are ∙ ap (option_and_then as_array) is))

nobody : WaitingRow
nobody = record {
  call = Take;
  at = 0;
  since = 0;
  client = 0;
  incarnation = 0;
  number = 0;
  unheard = None;
}

-- where one value is no row the values are no rows
pub no_rows : (values : List Value) (i : ℕ) (v : Value) → i < length values → v ≡ get_or values i v
    → ((row : WaitingRow) → ¬ IsRow (view v) row) → (rows : List WaitingRow)
    → ¬ AreRows (map view values) rows
no_rows values i v inside item none rows are =
    let cells : length (map view values) ≡ length (map waiting_value rows) = ap length are.are in
    let within : i < length rows =
    omega (arith, inside, cells, length-map values view, length-map rows waiting_value) in
    let here : view v ≡ waiting_value (get_or rows i nobody) = ap view item
    ∙ sym (get_or-map view values i v (view v) inside)
    ∙ ap (λ l. get_or l i (view v)) are.are
    ∙ get_or-map waiting_value rows i nobody (view v) within in
    none (get_or rows i nobody) (record {
      is = here;
      keyed = All-get_or IsKeyed rows i nobody within are.keyed;
    })
