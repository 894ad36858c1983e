use Rattle.std.proofs.Common.{◌≡◌, ◌++◌, ℕ, List, codes, rules}
use Rattle.std.proofs.lemmas.Result.{IfOk-weaker}
use Rattle.dq_request.specs.declared.request.Request.{Request}
use Rattle.dq_request.specs.declared.request.Request.TheVariants as request
use Rattle.dq_request.specs.declared.search.Subject.{Subject}
use Rattle.dq_core.specs.declared.event.Event.TheVariants as event
use Rattle.dq_console.specs.declared.console_line.ConsoleLine.{ConsoleLine}
use Rattle.dq_console.specs.declared.console_line.ConsoleLine.TheVariants as line
use Rattle.dq_console.specs.ConsoleLines.{subject_word, SpellsOrder, SpellsRequest, TellsLine}
use Rattle.dq_console.proofs.console_line.line_of.Goals as goal

-- a line that asks for no report, no copy and no search tells an order, or nothing
order-tells : (text : List ℕ) → (text ≡ codes "keys" → ⊥) → (text ≡ codes "report" → ⊥) → ((path : List ℕ) → text ≡ codes "backup " ++ path → ⊥)
    → ((subject : Subject) (rest : List ℕ) → text ≡ subject_word subject ++ rest → ⊥) → (l : ConsoleLine) → SpellsOrder text l → TellsLine text l
order-tells text keys report backup searches (line.Asked (request.Schedule institution octets)) spells = spells
order-tells text keys report backup searches (line.Asked (request.Withdraw institution id)) spells = spells
order-tells text keys report backup searches (line.Asked (request.Search it)) spells = absurd spells
order-tells text keys report backup searches (line.Asked (request.Counts name)) spells = absurd spells
order-tells text keys report backup searches (line.Asked request.Report) spells = absurd spells
order-tells text keys report backup searches (line.Asked (request.Backup path)) spells = absurd spells
order-tells text keys report backup searches line.Keys spells = absurd spells
order-tells text keys report backup searches (line.Misspelled word) spells = absurd spells
order-tells text keys report backup searches line.Bad spells = λ utf8. (no, keys) where
  no : (asked : Request) → SpellsRequest text asked → ⊥
  no (request.Search it) is = searches is.0 is.1 is.2
  no (request.Counts name) is = is
  no request.Report is = report is
  no (request.Schedule institution octets) is = spells (event.Schedule institution octets) is tt
  no (request.Withdraw institution id) is = spells (event.Withdraw institution id) is tt
  no (request.Backup path) is = backup _ is

pub returns-in-None : goal.returns-in-None
returns-in-None c =
    IfOk-weaker c.order_of.result (SpellsOrder c.args.text.now) (TellsLine c.args.text.now)
    (order-tells c.args.text.now (search rules) (search rules) (search rules) c.in-None.ensures) c.order_of.ensures
