-- What stands of a message that gets no entry for which room must be made.
use Rattle.std.proofs.Common.{◌≡◌, ◌<◌, ◌≤◌, ◌⊎◌, ℕ, None, true, false, arith, inl, inr, ltb, refl}
use Rattle.std.proofs.Common.{subst, sym}
use Rattle.std.proofs.lemmas.Bool.Decides.{nat_tests}
use Rattle.std.specs.FinMap.{get, len}
use Rattle.rv_text.specs.declared.version.Version.{Version}
use Rattle.rv_account.specs.rules.StepLimits.{StepLimits}
use Rattle.rv_session.specs.ClientMeanings.{GreetingSays}
use Rattle.rv_session.specs.Clients.{ClientStates}
use Rattle.rv_session.specs.declared.standing.Greeting.{Greeting}
use Rattle.rv_session.specs.declared.standing.Greeting.TheVariants.{Full, Unknown}
use Rattle.rv_machine.specs.declared.tables.Holdings.{Holdings}
use Rattle.rv_session.specs.ClientStandings.{stands_as}
use Rattle.rv_text.specs.declared.message.Message.{Message}
use Rattle.rv_machine.specs.Machines.{state_in}
use Rattle.rv_machine.specs.Needing.{EntersWithSpace, NeedsNoRoom}
use Rattle.rv_machine.proofs.HelloLines.{hello_enters}
use Rattle.rv_machine.proofs.HelloMoves.{lower_new, unknown_new}
use Rattle.rv_machine.proofs.NoRoom.{OpensNone, cancel_none, hello_none, not_next, opens_none, request_none}
use Rattle.rv_machine.proofs.RequestMoves.{lacks_next}
use Rattle.rv_machine.proofs.tables.Holdings.is_next.Goals as goal

less : (a b x y : ℕ) → a ≡ x → b ≡ y → ltb a b ≡ true → x < y
less a b x y a_is b_is is = grind (arith, nat_tests)

not_less : (a b x y : ℕ) → a ≡ x → b ≡ y → ltb a b ≡ false → y ≤ x
not_less a b x y a_is b_is is = grind (arith, nat_tests)

-- no session is opened for a client that isn't known where there are as many as may be
opens_no_more : (limits : StepLimits) (m : Holdings) (greeting : Greeting)
    → (greeting ≡ Unknown) ⊎ (greeting ≡ Full) → limits.clients ≤ len m.clients.clients
    → OpensNone limits m greeting
opens_no_more limits m greeting (inl is) full =
    subst (λ (x : Greeting). OpensNone limits m x) (sym is) full
opens_no_more limits m greeting (inr is) full =
    subst (λ (x : Greeting). OpensNone limits m x) (sym is) full

not_known : (t : ClientStates) (client incarnation : ℕ) (version : Version) (greeting : Greeting)
    → (greeting ≡ Unknown) ⊎ (greeting ≡ Full) → GreetingSays t client incarnation version greeting
    → get t.clients client ≡ None
not_known t client incarnation version greeting (inl is) says =
    (subst (λ (x : Greeting). GreetingSays t client incarnation version x) is says).0
not_known t client incarnation version greeting (inr is) says =
    (subst (λ (x : Greeting). GreetingSays t client incarnation version x) is says).0

pub returns-in_default-clause-no : goal.returns-in_default-clause-no
returns-in_default-clause-no c is =
    let m = c.args.self.now in
    let hello = c.in-Hello in
    subst (λ (x : Message). NeedsNoRoom c.args.limits.now (state_in m) x) (sym hello.is)
    (hello_none c.args.limits.now m hello.client hello.incarnation hello.version c.greet.result
    c.greet.ensures.means
    (opens_none c.args.limits.now m c.greet.result c.in_default.not-Unknown c.in_default.not-Full
    c.in_default.not-Newer))

pub returns-in_default-matches-clause-no : goal.returns-in_default-matches-clause-no
returns-in_default-matches-clause-no c is =
    let m = c.args.self.now in
    subst (λ (x : Message). NeedsNoRoom c.args.limits.now (state_in m) x) (sym c.in-Request.is)
    (request_none c.args.limits.now m c.requires.ready c.requires.numbered c.in-Request.key c.in-Request.call
    (stands_as c.look.result) c.look.ensures.means (not_next c.look.result c.in_default-matches.not-Next))

pub returns-in_default-matches-2-clause-no : goal.returns-in_default-matches-2-clause-no
returns-in_default-matches-2-clause-no c is =
    let m = c.args.self.now in
    subst (λ (x : Message). NeedsNoRoom c.args.limits.now (state_in m) x) (sym c.in-Cancel.is)
    (cancel_none c.args.limits.now m c.requires.ready c.requires.numbered c.in-Cancel.key
    (stands_as c.look-in-Cancel.result) c.look-in-Cancel.ensures.means
    (not_next c.look-in-Cancel.result c.in_default-matches-2.not-Next))

pub returns-in-Next-clause-yes : goal.returns-in-Next-clause-yes
returns-in-Next-clause-yes c is =
    subst (λ (x : Message). EntersWithSpace c.args.limits.now (state_in c.args.self.now) x)
    (sym c.in-Request.is)
    (lacks_next c.args.limits.now c.args.self.now c.requires.numbered c.in-Request.key c.in-Request.call
    c.in-Next.ensures.means)

pub returns-in-Newer-clause-yes : goal.returns-in-Newer-clause-yes
returns-in-Newer-clause-yes c is =
    let hello = c.in-Hello in
    subst (λ (x : Message). EntersWithSpace c.args.limits.now (state_in c.args.self.now) x) (sym hello.is)
    (λ space place moment. hello_enters c.args.limits.now (state_in c.args.self.now) hello.client
    hello.incarnation hello.version _ _ _
    (lower_new c.args.limits.now c.args.self.now hello.client hello.incarnation c.in-Newer.waiting
    c.in-Newer.ensures.means) space (inl refl))

pub returns-in-Unknown-clause-no : goal.returns-in-Unknown-clause-no
returns-in-Unknown-clause-no c is =
    let m = c.args.self.now in
    let hello = c.in-Hello in
    subst (λ (x : Message). NeedsNoRoom c.args.limits.now (state_in m) x) (sym hello.is)
    (hello_none c.args.limits.now m hello.client hello.incarnation hello.version c.greet.result
    c.greet.ensures.means
    (opens_no_more c.args.limits.now m c.greet.result c.in-Unknown.is
    (not_less _ _ _ _ c.len.ensures.length c.clients.ensures.exact is)))

pub returns-in-Unknown-clause-yes : goal.returns-in-Unknown-clause-yes
returns-in-Unknown-clause-yes c is =
    let m = c.args.self.now in
    let hello = c.in-Hello in
    subst (λ (x : Message). EntersWithSpace c.args.limits.now (state_in m) x) (sym hello.is)
    (λ space place moment. hello_enters c.args.limits.now (state_in m) hello.client hello.incarnation
    hello.version _ _ _
    (unknown_new c.args.limits.now m hello.client hello.incarnation
    (not_known m.clients hello.client hello.incarnation hello.version c.greet.result c.in-Unknown.is
    c.greet.ensures.means)
    (less _ _ _ _ c.len.ensures.length c.clients.ensures.exact is)) space (inl refl))
