-- An empty account with its machine is sound.
use Rattle.std.proofs.Common.{◌≡◌, ◌≤◌, ◌∙◌, [], sym, ap, arith}
use Rattle.rv_account.specs.Limits.{max_moment}
use Rattle.rv_account.specs.state.State.{opening}
use Rattle.rv_book.proofs.Opened.{opened_sound}
use Rattle.rv_book.proofs.state.BookState.open.Goals as goal

pub returns-clause-sound : goal.returns-clause-sound
returns-clause-sound c =
    let made = c.empty.ensures in
    let is : c.empty.result.account
    ≡ record { epoch = c.args.epoch; opened = c.min.result; entries = [] } =
    λ i. record { epoch = made.epoch i; opened = made.opened i; entries = made.entries i } in
    let most : c.min.result ≤ max_moment = let least = c.min.ensures in omega (arith, least) in
    opened_sound c.args.epoch c.min.result c.requires most c.empty.result c.in_ok-open.field-0 c.new.result is
    (c.in_ok-open.ensures.state ∙ ap (opening c.args.epoch) (sym c.min.ensures))
