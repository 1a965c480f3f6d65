-- What a body that is no answer's comes to.
use Rattle.std.proofs.Common.{◌≡◌, List, ℕ, Option, Result, Err, inr}
use Rattle.rv_text.specs.Bodies.{Decodes, IsAnswerBody}
use Rattle.rv_text.specs.declared.answer.Answer.{Answer}
use Rattle.rv_json.specs.declared.fault.TextFault.{TextFault}
use Rattle.rv_json.specs.declared.fault.TextFault.TheVariants.{NotJson, NotMessage, NoMemory}
use Rattle.rv_frame.specs.Cut.{IsFrameBody, frame_bytes}
use Rattle.rv_client.specs.Faults.{text_fault}
use Rattle.rv_client.specs.Link.{Asks, Link, LinkHolds, Moves}

module _ {R W : Type 0} (remaining : R → Option (List ℕ)) (contents : W → Option (List ℕ)) where
  pub told_text : (request : List ℕ) (before after : Link R W) (body : List ℕ) (fault : TextFault)
      → IsFrameBody body → Moves remaining contents before after request (frame_bytes body)
      → LinkHolds before after → (result : Result Answer TextFault) → result ≡ Err fault
      → Decodes Answer IsAnswerBody body result
      → Asks remaining contents request before after (Err (text_fault fault))
  told_text request before after body NotJson is_body moves works result same decodes = record {
    body = body;
    is_body = is_body;
    has = λ answer is. (decodes.not_json same).1 _ is.1;
    moves = moves;
    works = works;
  }
  told_text request before after body NotMessage is_body moves works result same decodes = record {
    body = body;
    is_body = is_body;
    has = decodes.not_message same;
    moves = moves;
    works = works;
  }
  told_text request before after body NoMemory is_body moves works result same decodes = inr (record {
    body = body;
    is_body = is_body;
    has = tt;
    moves = moves;
    works = works;
  })
