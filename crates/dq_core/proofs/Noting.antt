-- Notes that are added.
use Rattle.std.proofs.Common.{◌≡◌, ℕ, List, [], ◌∷◌, ◌++◌, map, sym, ap, append_assoc, ◌∙◌}
use Rattle.std.proofs.lemmas.List.{append-nil, map-append}
use Rattle.dq_core.specs.declared.notes.LogEvent.{LogEvent}
use Rattle.dq_core.specs.declared.notes.Note.{Note}
use Rattle.dq_core.specs.Notes.{note_on, AddsNotesOf}

pub none_added : (number : ℕ) (old : List Note) → AddsNotesOf number old old
none_added number old = ([], sym (append-nil old))

pub one_added : (number : ℕ) (old now : List Note) (event : LogEvent) → AddsNotesOf number old now
    → AddsNotesOf number old (now ++ note_on number event ∷ [])
one_added number old now event a = (
  a.0 ++ event ∷ [],
  ap (λ notes. notes ++ note_on number event ∷ []) a.1 ∙ append_assoc old (map (note_on number) a.0) (note_on number event ∷ [])
      ∙ ap (λ notes. old ++ notes) (sym (map-append (note_on number) a.0 (event ∷ []))),
)
