-- The body of each page.
use Rattle.std.proofs.Common.{◌≡◌, List, ℕ, sym, subst, ap, ◌∙◌}
use Rattle.std.proofs.lemmas.Result.{IfOk-weaker}
use Rattle.rv_status.specs.declared.pages.StatusPage.{StatusPage}
use Rattle.rv_status.specs.declared.status.HostStatus.{HostStatus}
use Rattle.rv_status.specs.declared.pages.StatusPage.TheVariants as pages
use Rattle.rv_status.specs.Pages.{page_body, ready_word}
use Rattle.rv_status.proofs.pages.StatusPage.body.Goals as goal

-- what is the body of a page is that of one that is the same
of_page : (s : HostStatus) (page this : StatusPage) (body : List ℕ) → page ≡ this → body ≡ page_body s this
    → body ≡ page_body s page
of_page s page this body is same = subst (λ p. body ≡ page_body s p) (sym is) same

pub returns-in-Front : goal.returns-in-Front
returns-in-Front c =
    of_page c.args.status.now c.args.self pages.Front c.from_static.result c.in-Front.is c.from_static.ensures

pub returns-in_ok-status_json-in-Status : goal.returns-in_ok-status_json-in-Status
returns-in_ok-status_json-in-Status c =
    IfOk-weaker c.bytes_of.result _ _
    (λ body same. of_page c.args.status.now c.args.self pages.Status body c.in-Status.is
    (same ∙ c.in_ok-status_json-in-Status.ensures)) c.bytes_of.ensures

pub returns-in_ok-metrics_of-in-Metrics : goal.returns-in_ok-metrics_of-in-Metrics
returns-in_ok-metrics_of-in-Metrics c =
    IfOk-weaker c.bytes_of-in-Metrics.result _ _
    (λ body same. of_page c.args.status.now c.args.self pages.Metrics body c.in-Metrics.is
    (same ∙ c.in_ok-metrics_of-in-Metrics.ensures)) c.bytes_of-in-Metrics.ensures

pub returns-in-Health : goal.returns-in-Health
returns-in-Health c =
    of_page c.args.status.now c.args.self pages.Health c.from_static-in-Health.result c.in-Health.is
    c.from_static-in-Health.ensures

pub returns-in-Elsewhere : goal.returns-in-Elsewhere
returns-in-Elsewhere c =
    of_page c.args.status.now c.args.self pages.Elsewhere c.from_static-in-Elsewhere.result c.in-Elsewhere.is
    c.from_static-in-Elsewhere.ensures

pub returns-in-Unknown : goal.returns-in-Unknown
returns-in-Unknown c =
    of_page c.args.status.now c.args.self pages.Unknown c.from_static-in-Unknown.result c.in-Unknown.is
    c.from_static-in-Unknown.ensures

pub returns-in-NotAllowed : goal.returns-in-NotAllowed
returns-in-NotAllowed c =
    of_page c.args.status.now c.args.self pages.NotAllowed c.from_static-in-NotAllowed.result
    c.in-NotAllowed.is
    c.from_static-in-NotAllowed.ensures

pub returns-in-Ready : goal.returns-in-Ready
returns-in-Ready c =
    of_page c.args.status.now c.args.self pages.Ready c.from_static-in-Ready.result c.in-Ready.is
    (c.from_static-in-Ready.ensures ∙ c.ready_word.ensures ∙ ap ready_word c.is_full.ensures)
