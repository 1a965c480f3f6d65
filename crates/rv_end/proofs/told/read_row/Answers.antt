-- A row is read cell by cell.
use Rattle.std.proofs.Common.{◌∙◌, ap, arith, refl, Some, sym}
use Rattle.serde_json.specs.View.{items_view}
use Rattle.rv_end.proofs.Rows.{client_told, incarnation_told, row_read, seven_cells}
use Rattle.rv_end.proofs.told.read_row.Goals as goal

pub returns-in_err-identifier_of-in-len7-clause-none : goal.returns-in_err-identifier_of-in-len7-clause-none
returns-in_err-identifier_of-in-len7-clause-none c none row is =
    let are = ap (λ xs. Some (items_view xs)) c.as_slice.ensures.value ∙ c.in_ok-as_array.ensures in
    c.in_err-identifier_of-in-len7.ensures.none refl row.client
    (client_told _ c.as_slice.result.now row are is c.client-item.result c.client-item.is) is.keyed.client

pub returns-in_err-identifier_of-in-len7-2-clause-none :
    goal.returns-in_err-identifier_of-in-len7-2-clause-none
returns-in_err-identifier_of-in-len7-2-clause-none c none row is =
    let are = ap (λ xs. Some (items_view xs)) c.as_slice.ensures.value ∙ c.in_ok-as_array.ensures in
    c.in_err-identifier_of-in-len7-2.ensures.none refl row.incarnation
    (incarnation_told _ c.as_slice.result.now row are is c.incarnation-item.result c.incarnation-item.is)
    is.keyed.incarnation

pub returns-in_ok-as_u64-in-len7-4-clause-some : goal.returns-in_ok-as_u64-in-len7-4-clause-some
returns-in_ok-as_u64-in-len7-4-clause-some c =
    let are = ap (λ xs. Some (items_view xs)) c.as_slice.ensures.value ∙ c.in_ok-as_array.ensures in
    record {
      is = row_read _ c.as_slice.result.now c.call-item.result c.at-item.result c.since-item.result
          c.client-item.result c.incarnation-item.result c.number-item.result c.unheard-item.result _
          c.in_ok-as_u64-in-len7-4.field-0 refl are
          (omega (arith, c.in-len7.len_at_least, c.in-len7.len_below))
          c.call-item.is c.at-item.is c.since-item.is c.client-item.is c.incarnation-item.is c.number-item.is
          c.unheard-item.is c.in_ok-call_of-in-len7.ensures.some (sym c.in_ok-as_u64-in-len7.ensures)
          (sym c.in_ok-as_u64-in-len7-2.ensures) c.in_ok-identifier_of-in-len7.ensures.some.0
          c.in_ok-identifier_of-in-len7-2.ensures.some.0 (sym c.in_ok-as_u64-in-len7-3.ensures)
          (sym c.in_ok-as_u64-in-len7-4.ensures);
      keyed = record {
        client = c.in_ok-identifier_of-in-len7.ensures.some.1;
        incarnation = c.in_ok-identifier_of-in-len7-2.ensures.some.1;
        since = refl;
      };
    }

pub returns-in_default-clause-none : goal.returns-in_default-clause-none
returns-in_default-clause-none c none row is =
    let are = ap (λ xs. Some (items_view xs)) c.as_slice.ensures.value ∙ c.in_ok-as_array.ensures in
    omega (arith, c.in_default.len_below, seven_cells _ c.as_slice.result.now row are is)

pub returns-in_default-2-clause-none : goal.returns-in_default-2-clause-none
returns-in_default-2-clause-none c none row is =
    let are = ap (λ xs. Some (items_view xs)) c.as_slice.ensures.value ∙ c.in_ok-as_array.ensures in
    omega (arith, c.in_default.len_at_least, seven_cells _ c.as_slice.result.now row are is)
