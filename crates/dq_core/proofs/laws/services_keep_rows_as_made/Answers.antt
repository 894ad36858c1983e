use Rattle.std.proofs.Common.{◌≡◌, true, ◌⊎◌, inl, inr, refl}
use Rattle.dq_tables.specs.declared.row.Kind.TheVariants.{Entry, Step}
use Rattle.dq_tables.specs.declared.row.Row.{Row}
use Rattle.dq_store.specs.Levels.{keeps_to_its_level, is_of_its_level}
use Rattle.dq_core.proofs.laws.services_keep_rows_as_made.Goals as goal

-- of entries and steps nothing is asked
entry-keeps : (row : Row) → row.kind ≡ Entry → is_of_its_level row ≡ true
unfolding keeps_to_its_level
entry-keeps row e = rw e refl

step-keeps : (row : Row) → row.kind ≡ Step → is_of_its_level row ≡ true
unfolding keeps_to_its_level
step-keeps row e = rw e refl

either-keeps : (row : Row) → (row.kind ≡ Entry) ⊎ (row.kind ≡ Step) → is_of_its_level row ≡ true
either-keeps row (inl e) = entry-keeps row e
either-keeps row (inr e) = step-keeps row e

pub returns : goal.returns
returns c = record {
  storing = λ name limits rows message syntax are made. record {
    sound = c.services_keep_rows_sound.ensures.storing name limits rows message syntax are made.sound;
    levels = c.records_keep_to_their_levels.ensures name limits rows message syntax are made.levels;
  };
  creating = λ name limits rows message syntax are made. record {
    sound = c.services_keep_rows_sound.ensures.creating name limits rows message syntax are made.sound;
    levels = c.rows_of_other_kinds_stay.ensures.created is_of_its_level either-keeps name limits rows message syntax made.sound.sound.rising made.levels;
  };
  changing = λ name rows message syntax are made. record {
    sound = c.services_keep_rows_sound.ensures.changing name rows message syntax are made.sound;
    levels = c.rows_of_other_kinds_stay.ensures.changed is_of_its_level step-keeps name rows message syntax made.levels;
  };
  scheduling = λ name limits rows octets are made. record {
    sound = c.services_keep_rows_sound.ensures.scheduling name limits rows octets are made.sound;
    levels = c.rows_of_other_kinds_stay-2.ensures.scheduled is_of_its_level entry-keeps name limits rows octets made.levels;
  };
  withdrawing = λ name rows id made. record {
    sound = c.services_keep_rows_sound.ensures.withdrawing name rows id made.sound;
    levels = c.rows_of_other_kinds_stay-2.ensures.withdrawn is_of_its_level name rows id made.levels;
  };
}
