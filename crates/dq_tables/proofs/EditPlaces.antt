-- The record that an edit finds stands at the edit's place.
use Rattle.std.proofs.Common.{◌≡◌, Bool, true, false, ◌&&◌, List, [], ◌∷◌, Option, Some, None, refl, arith}
use Rattle.std.specs.Str.{bytes_eq}
use Rattle.std.proofs.lemmas.Bool.{and_parts}
use Rattle.std.proofs.lemmas.Slice.Eq.{bytes_eq-Decides}
use Rattle.dq_tables.specs.Rows.{Record, Place, record_place, record_at, same_kind}
use Rattle.dq_tables.proofs.RecordLists.{one_kind}

-- a record, if there is one, stands at a place
abbrev pub StandsAt : Place → Option Record → Type 0
StandsAt p None = Unit {0}
StandsAt p (Some r) = record_place r ≡ p

stands_step : (p : Place) (r : Record) (records : List Record) (b : Bool) → (same_kind r.kind p.kind && bytes_eq r.key p.key) ≡ b
    → StandsAt p (record_at p.kind p.key records) → StandsAt p (record_at p.kind p.key (r ∷ records))
unfolding record_at
stands_step p r records true e rest = grind (arith, and_parts, one_kind, bytes_eq-Decides)
stands_step p r records false e rest = rw e rest

pub stands_there : (p : Place) (records : List Record) → StandsAt p (record_at p.kind p.key records)
unfolding record_at
stands_there p [] = tt
stands_there p (r ∷ records) = stands_step p r records (same_kind r.kind p.kind && bytes_eq r.key p.key) refl (stands_there p records)
