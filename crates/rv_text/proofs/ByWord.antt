-- What is found by the word that a member says.
use Rattle.std.proofs.Common.{◌≡◌, ℕ, List, Some, ap, ◌∙◌}
use Rattle.std.specs.Str.{bytes_eq}
use Rattle.serde_json.specs.Data.{Members}
use Rattle.rv_text.specs.Reading.{◌>>=◌, ReaderLine, under, among, text_among}

pub by_word : {A : Type 0} (name said word : List ℕ) (lines : List (ReaderLine (List ℕ) A)) (ms : Members)
    → text_among name ms ≡ Some said → said ≡ word → among name lines ms ≡ under bytes_eq word lines ms
by_word name said word lines ms told is =
    ap (λ found. found >>= (λ key. under bytes_eq key lines ms)) (told ∙ ap (λ key. Some key) is)
