-- Laws of the words of a command line.
use Rattle.std.specs.Prelude.{codes, List, [], ◌∷◌, ◌≡◌}
use Rattle.clap.specs.Words.{Text}
use Rattle.rv_words.specs.command.Command.{NamesCommand}
use Rattle.rv_words.specs.declared.command.Command.{Command}
use Rattle.rv_words.specs.declared.command.Command.TheVariants.{Audit, Book, Call, End, Play, Serve}

-- the commands are the same; addresses are the same if their bytes are
abbrev pub SameCommand : Command → Command → Type 0
SameCommand (Serve listen epoch workers connections) (Serve other epoch' workers' connections') =
    (listen.now ≡ other.now) × (epoch ≡ epoch') × (workers ≡ workers') × (connections ≡ connections')
SameCommand (Serve listen epoch workers connections) d = ⊥
SameCommand (Call connect client incarnation tries speak)
    (Call other client' incarnation' tries' speak') =
    (connect.now ≡ other.now) × (client ≡ client') × (incarnation ≡ incarnation') × (tries ≡ tries')
    × (speak ≡ speak')
SameCommand (Call connect client incarnation tries speak) d = ⊥
SameCommand (End status connect older) (End status' connect' older') =
    (status.now ≡ status'.now) × (connect.now ≡ connect'.now) × (older ≡ older')
SameCommand (End status connect older) d = ⊥
SameCommand (Book epoch) d = Book epoch ≡ d
SameCommand Play d = Play ≡ d
SameCommand Audit d = Audit ≡ d

-- words name at most one command
abbrev pub OneCommand : Type 0
OneCommand = (words : List Text) (c d : Command) → NamesCommand words c → NamesCommand words d
    → SameCommand c d

-- the words of `rv book --epoch 1`
abbrev pub book_one : List Text
book_one = codes "rv" ∷ codes "book" ∷ codes "--epoch" ∷ codes "1" ∷ []

abbrev pub BookOneIsNamed : Type 0
BookOneIsNamed = NamesCommand book_one (Book 1)
