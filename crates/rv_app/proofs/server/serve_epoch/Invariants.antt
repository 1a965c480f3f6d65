-- The ledger is the one of the blank, and the book is opened as the arguments say.
use Rattle.rv_app.proofs.server.serve_epoch.Given as goal

abbrev pub ghosts-serve_book-L-Ledger : goal.ghosts-serve_book-L-Ledger
ghosts-serve_book-L-Ledger g a = record { name = a.blank.name; parts = a.blank.parts }

abbrev pub ghosts-serve_book-O-Opening : goal.ghosts-serve_book-O-Opening
ghosts-serve_book-O-Opening g a = record { epoch = a.plan.epoch; moment = a.moment }
