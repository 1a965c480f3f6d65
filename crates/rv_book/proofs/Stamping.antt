-- A step gives its stamp, and a verdict that was given stays given.
use Rattle.rv_book.proofs.Words.{◌≡◌, ◌≤◌, ◌+◌, ◌∙◌, ℕ, List, length, take, Option, Some, refl, sym, ap}
use Rattle.rv_book.proofs.Words.{subst, arith, length-append, unwrap_or, Message, Answer, Entry, BookState}
use Rattle.rv_book.proofs.Words.{Account, Stored, Legal, before, FitsAccount, step_moment, IsSound}
use Rattle.rv_book.proofs.Words.{account_of, said_in, take_all}
use Rattle.std.proofs.Common.{le_refl}
use Rattle.rv_text.specs.Limits.{FitsAnswer, FitsMessage}
use Rattle.rv_book.specs.declared.verdict.KeptAnswer.{KeptAnswer}
use Rattle.rv_account.specs.Account.{Extends}
use Rattle.rv_book.specs.Laws.{VerdictsStay}
use Rattle.rv_book.specs.Steps.{Next}
use Rattle.rv_book.specs.Operations.{BecomesAfterTicks}
use Rattle.rv_book.specs.Saying.{stamp_of}
use Rattle.rv_book.specs.Verdicts.{IsOfStep, VerdictView, WasGiven}
use Rattle.rv_book.proofs.Fitting.{step_fits}
use Rattle.rv_book.proofs.Staying.{still_kept, steps_extend}
use Rattle.rv_book.proofs.Saying.{said_kept}
use Rattle.std.proofs.lemmas.List.{take-append-le}
use Rattle.rv_text.specs.declared.answer.Answer as answer
use Rattle.rv_text.specs.declared.answer.Refusal.TheVariants as refusal

-- ---- fronts of accounts

abbrev account_with : Account → List Entry → Account
account_with a entries = record { epoch = a.epoch; opened = a.opened; entries = entries }

-- an account has the fronts of one that it extends
same_front : (a b : Account) (n : ℕ) → Extends a b → n ≤ length a.entries → before b n ≡ before a n
same_front a b n extends within =
    ap (λ (k : ℕ). record { epoch = k; opened = b.opened; entries = take n b.entries }) extends.epoch
    ∙ ap (λ (k : ℕ). record { epoch = a.epoch; opened = k; entries = take n b.entries }) extends.opened
    ∙ ap (λ (es : List Entry). account_with a (take n es)) extends.entries
    ∙ ap (account_with a) (take-append-le n a.entries extends.more within)

whole_front : (a : Account) → before a (length a.entries) ≡ a
whole_front a = ap (account_with a) (take_all (length a.entries) a.entries (le_refl _))

not_shorter : (a b : Account) → Extends a b → length a.entries ≤ length b.entries
not_shorter a b extends =
    let sum : length b.entries ≡ length a.entries + length extends.more = ap (λ (es : List Entry). length es)
    extends.entries ∙ length-append a.entries extends.more in
    omega (arith, sum)

-- a step between accounts that are the same
same_step : {a b c d : Account} {now : ℕ} {m : Message} {x y : Answer} → c ≡ a → d ≡ b → y ≡ x
    → Next a now m b x → Next c now m d y
same_step {a} {b} {c} {d} {now} {m} {x} {y} first last same next =
    let from : Next c now m b x = subst (λ (e : Account). Next e now m b x) (sym first) next in
    let to : Next c now m d x = subst (λ (e : Account). Next c now m e x) (sym last) from in
    subst (λ (z : Answer). Next c now m d z) (sym same) to

-- ---- verdicts

pub verdicts_stay : VerdictsStay
verdicts_stay a b v extends given =
    let more = not_shorter a b extends in
    let first = same_front a b v.before extends (omega (arith, given.grows, given.within)) in
    record {
      moment = given.moment;
      step = same_step first (same_front a b v.length extends given.within) refl given.step;
      grows = given.grows;
      within = omega (arith, given.within, more);
      says = still_kept a b v.kept v.said extends given.says;
    }

-- a step of the message between the accounts gives this stamp
pub record GivesStamp (a : Account) (now : ℕ) (m : Message) (b : Account) (v : VerdictView) : Type 0 where
  pub step : Next a now m b v.said
  pub fits : FitsAnswer v.said
  pub of_step : IsOfStep v
  pub given : WasGiven b v

step_gives : (a b : Account) (now : ℕ) (m : Message) (kept : KeptAnswer) → Legal a → Legal b → FitsAccount b
    → FitsMessage m → BecomesAfterTicks a now m b kept → GivesStamp a now m b (stamp_of m a b kept)
step_gives a b now m kept legal after fits message became =
    let x : Answer = became.becomes.answer in
    let said : said_in b kept ≡ x = ap (λ (o : Option Answer). unwrap_or o (answer.TheVariants.Refused
    refusal.NoMemory)) became.becomes.is in
    let next : Next a now m b x = record {
      ticked = became.ticked;
      ticks = became.ticks;
      steps =
          became.becomes.step;
    } in
    let extends = steps_extend a b now m x next in
    let first : before b (length a.entries) ≡ a = same_front a b (length a.entries) extends (le_refl _)
    ∙ whole_front a in
    let step = same_step refl refl said next in
    record {
      step = step;
      fits = subst FitsAnswer (sym said) (step_fits became.ticked b (step_moment a now) m x after became.fits
          fits message became.becomes.step);
      of_step = record {
        account = a;
        legal = legal;
        account_has = refl;
        moment = now;
        after = b;
        after_has =
            refl;
        step = step;
      };
      given = record {
        moment = now;
        step = same_step first (whole_front b) said next;
        grows = not_shorter a b extends;
        within = le_refl _;
        says = said_kept b.entries kept (said_in b kept) (became.becomes.is ∙ ap Some (sym said));
      };
    }

-- the same of what snapshots took of the message, of the account before and of that after
pub gives_stamp : {s t : BookState} {first last : Stored} {now : ℕ} {m asked : Message} {kept : KeptAnswer}
    → asked ≡ m → first ≡ s.account → last ≡ t.account
    → IsSound s → IsSound t → FitsMessage m → BecomesAfterTicks (account_of s) now m (account_of t) kept
    → GivesStamp (account_of s) now m (account_of t) (stamp_of asked first.account last.account kept)
gives_stamp {s} {t} {first} {last} {now} {m} {asked} {kept} asked_is first_is last_is before_sound after_sound
    fits became =
    let gives = step_gives (account_of s) (account_of t) now m kept before_sound.legal after_sound.legal
    after_sound.fits fits became in
    let same : stamp_of asked first.account last.account kept ≡ stamp_of m (account_of s) (account_of t)
    kept =
    ap (λ (n : Message). stamp_of n first.account last.account kept) asked_is
    ∙ ap (λ (a : Stored). stamp_of m a.account last.account kept) first_is
    ∙ ap (λ (b : Stored). stamp_of m (account_of s) b.account kept) last_is in
    subst (GivesStamp (account_of s) now m (account_of t)) (sym same) gives

-- a verdict that was given before the step was given after it
pub still_given : {a b : Account} {now : ℕ} {m : Message} {v : VerdictView} → GivesStamp a now m b v
    → (w : VerdictView) → WasGiven a w → WasGiven b w
still_given {a} {b} {now} {m} {v} gives w given = verdicts_stay a b w (steps_extend a b now m v.said
    gives.step) given
