-- A run of the book over the lines of its input: which bodies answer them, and what is printed.
use Rattle.std.specs.Prelude.{ℕ, List, [], ◌∷◌, ◌≡◌, ◌⊎◌}
use Rattle.rv_text.specs.declared.answer.Answer.{Answer}
use Rattle.rv_text.specs.declared.answer.Refusal.TheVariants.{BadText, NoMemory}
use Rattle.rv_text.specs.declared.message.Message.{Message}
use Rattle.rv_text.specs.Bodies.{answer_text, refused_text}
use Rattle.rv_account.specs.Account.{Account}
use Rattle.rv_book.specs.Steps.{Next}
pub use Rattle.rv_book.specs.lines.Lines.{printed_lines}
use Rattle.rv_run.specs.turns.Lines.{HasForm, IsBadLine, ReadsLine, lines}

-- the account of an epoch that was opened at this moment, with no entry yet
abbrev pub opened_account : ℕ → ℕ → Account
opened_account epoch moment = record { epoch = epoch; opened = moment; entries = [] }

-- ---- one line

-- the line's message, at the line's moment, leads from one account to the other with this answer
pub record StepsBy (line : List ℕ) (a b : Account) (answer : Answer) : Type 0 where
  pub moment : ℕ
  pub message : Message
  pub said : ReadsLine line moment message
  pub step : Next a moment message b answer

-- a line that says no message is refused as that, and the account stays
pub record RefusesLine (line : List ℕ) (a b : Account) (body : List ℕ) : Type 0 where
  pub is_bad : IsBadLine line
  pub account_stays : b ≡ a
  pub body_is : body ≡ refused_text BadText

-- the line's message takes its step, and the body says the step's answer
pub record SaysAnswer (line : List ℕ) (a b : Account) (body : List ℕ) : Type 0 where
  pub answer : Answer
  pub steps : StepsBy line a b answer
  pub body_is : body ≡ answer_text answer

-- memory was refused, for a line of a message's form: the account stays or takes the step of the line's
-- message, and the body says that memory was refused
pub record LineLacksMemory (line : List ℕ) (a b : Account) (body : List ℕ) : Type 0 where
  pub has_form : HasForm line
  pub stays_or_steps : (b ≡ a) ⊎ ((answer : Answer) × StepsBy line a b answer)
  pub body_is : body ≡ refused_text NoMemory

-- the line is answered with this body, and leads from one account to the other
abbrev pub AnswersLine : List ℕ → Account → Account → List ℕ → Type 0
AnswersLine line a b body =
    RefusesLine line a b body ⊎ (SaysAnswer line a b body ⊎ LineLacksMemory line a b body)

-- the message takes its step and the body says the answer, or the body says that memory was refused
pub record AnswersMessage (moment : ℕ) (message : Message) (a b : Account) (body : List ℕ) : Type 0 where
  pub answer : Answer
  pub step : Next a moment message b answer
  pub body_is : (body ≡ answer_text answer) ⊎ (body ≡ refused_text NoMemory)

-- ---- all lines

-- the lines, in order, are answered with these bodies, one for each, and lead from one account to the other
abbrev pub RunsLines : Account → List (List ℕ) → List (List ℕ) → Account → Type 0
RunsLines a [] [] b = b ≡ a
RunsLines a (line ∷ lines) (body ∷ bodies) b =
    (between : Account) × AnswersLine line a between body × RunsLines between lines bodies b
RunsLines a _ _ b = ⊥

-- the output is what one run over the lines of the input prints, from this account on
pub record Prints (a : Account) (input output : List ℕ) : Type 0 where
  pub bodies : List (List ℕ)
  pub last : Account
  pub run : RunsLines a (lines input) bodies last
  pub output_is : output ≡ printed_lines bodies
