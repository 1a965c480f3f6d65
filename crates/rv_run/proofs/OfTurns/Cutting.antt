-- A line of the book's input is read in one way.
use Rattle.std.proofs.Common.{◌≡◌, ℕ, List, ◌∷◌, ◌++◌, sym, subst, ◌∙◌}
use Rattle.rv_text.specs.declared.message.Message.{Message}
use Rattle.rv_text.specs.Bodies.{IsMessageBody}
use Rattle.rv_book.proofs.OfLines.Cutting.{cut_once, digits_lack_space}
use Rattle.rv_run.specs.turns.Lines.{IsBadLine}
use Rattle.rv_text.specs.Number.{WritesNumber}

-- a line has one moment's digits and one body
pub one_cut : (digits body digits' body' : List ℕ) (moment moment' : ℕ) → WritesNumber digits moment
    → WritesNumber digits' moment' → digits ++ 32 ∷ body ≡ digits' ++ 32 ∷ body'
    → (digits ≡ digits') × (body ≡ body')
one_cut digits body digits' body' moment moment' writes writes' same =
    cut_once 32 digits body digits' body' (digits_lack_space digits writes.0.are_digits)
    (digits_lack_space digits' writes'.0.are_digits) same

-- a line whose body is no message's is bad
pub bad_body : (line digits body : List ℕ) (moment : ℕ) → line ≡ digits ++ 32 ∷ body
    → WritesNumber digits moment → ((message : Message) → ¬ IsMessageBody body message) → IsBadLine line
bad_body line digits body moment parts writes refused moment' message reads =
    let one = one_cut reads.digits reads.body digits body moment' moment reads.says_moment writes
    (sym reads.parts ∙ parts) in
    refused message (subst (λ (b : List ℕ). IsMessageBody b message) one.1 reads.says_message)
