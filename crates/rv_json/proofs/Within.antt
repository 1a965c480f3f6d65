-- From what is alone among the members to what is alone in the bytes' object.
use Rattle.std.proofs.Common.{List, ℕ, Option, Some, None, IfSome, Result, Ok, Err, OnOk, ap, sym, subst}
use Rattle.serde_json.specs.Data.{Data, Members}
use Rattle.serde_json.specs.Data as json
use Rattle.rv_json.specs.declared.fault.TextFault.{TextFault}
use Rattle.rv_json.specs.declared.fault.TextFault.TheVariants.{NotJson, NotMessage, NoMemory}
use Rattle.rv_json.specs.Alone.{Form, IsAlone, FindsAlone, FindsIn}
use Rattle.rv_json.specs.Bodies.{HasBodyLength, Reads}
use Rattle.rv_json.specs.Sorted.{IsSorted}

abbrev members_in : Members → Data → Members
members_in d (json.object ms) = ms
members_in d json.null = d
members_in d (json.boolean b) = d
members_in d (json.number n) = d
members_in d (json.string s) = d
members_in d (json.array ds) = d

module _ (A : Type 0) (form : Form A) (bytes : List ℕ) (ms : Members) where
  pub alone_in : (answer : Result A TextFault) → HasBodyLength bytes → Reads bytes (json.object ms)
      → OnOk answer (IsSorted ms) → FindsAlone form answer ms → FindsIn form bytes answer
  alone_in (Ok x) long reads sorted alone = (
    long,
    record {
      members = ms;
      sorted = sorted;
      reads = reads;
      alone = alone;
    },
  )
  alone_in (Err NotJson) long reads sorted never = absurd never
  alone_in (Err NotMessage) long reads sorted none =
      λ _. record {
        value = json.object ms;
        reads = reads;
        none = λ members same x alone.
            none x (subst (λ ms. IsAlone A form ms x) (sym (ap (members_in members) same)) alone);
      }
  alone_in (Err NoMemory) long reads sorted alone = long

  pub some_in : HasBodyLength bytes → Reads bytes (json.object ms) → IsSorted ms
      → (found : Option A) → IfSome found (IsAlone A form ms) → IfSome found (λ x. FindsIn form bytes (Ok x))
  some_in long reads sorted None alone = tt
  some_in long reads sorted (Some x) alone = alone_in (Ok x) long reads sorted alone
