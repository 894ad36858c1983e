use Rattle.dq_core.proofs.laws.services_keep_rows_sound.Goals as goal

pub returns : goal.returns
returns c = record {
  storing = λ name limits rows message syntax are good. record {
    sound = c.sound_rows_stay_sound.ensures name limits rows message syntax are good.sound;
    data_sets = c.rows_hold_data_sets.ensures name limits rows message syntax are good.data_sets;
  };
  creating = λ name limits rows message syntax are good. record {
    sound = c.sound_rows_stay_sound-2.ensures.created name limits rows message syntax are good.sound;
    data_sets = c.rows_hold_data_sets-2.ensures.created name limits rows message syntax are good.sound.rising good.data_sets;
  };
  changing = λ name rows message syntax are good. record {
    sound = c.sound_rows_stay_sound-2.ensures.changed name rows message syntax are good.sound good.data_sets;
    data_sets = c.rows_hold_data_sets-2.ensures.changed name rows message syntax are good.data_sets;
  };
  scheduling = λ name limits rows octets are good. record {
    sound = c.sound_rows_stay_sound-3.ensures.scheduled name limits rows octets are good.sound;
    data_sets = c.rows_hold_data_sets-3.ensures.scheduled name limits rows octets are good.data_sets;
  };
  withdrawing = λ name rows id good. record {
    sound = c.sound_rows_stay_sound-3.ensures.withdrawn name rows id good.sound;
    data_sets = c.rows_hold_data_sets-3.ensures.withdrawn name rows id good.data_sets;
  };
}
