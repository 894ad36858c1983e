use Rattle.dq_store.specs.Levels.{is_kept_in, stands_whole}
use Rattle.dq_store.proofs.Whole.{status_says, status_says_whole, sent_in, told_success, told_discarded}
use Rattle.dq_store.proofs.laws.the_status_says_what_stands.Goals as goal

pub returns-clause-kept : goal.returns-clause-kept
returns-clause-kept c = λ h limits rows message syntax are sound.
    told_success h rows limits message syntax is_kept_in (status_says h rows sound (sent_in message syntax))
    (c.made_data_sets_are_read_back.ensures message.octets syntax are)

pub returns-clause-cut : goal.returns-clause-cut
returns-clause-cut c = λ h limits rows message syntax are sound.
    told_discarded h rows limits message syntax is_kept_in (status_says h rows sound (sent_in message syntax))
    (c.made_data_sets_are_read_back.ensures message.octets syntax are)

pub returns-clause-whole : goal.returns-clause-whole
returns-clause-whole c = λ h limits rows message syntax are sound levels.
    told_success h rows limits message syntax stands_whole (λ here study series image. status_says_whole h rows sound (sent_in message syntax) here study series image levels)
    (c.made_data_sets_are_read_back.ensures message.octets syntax are)

pub returns-clause-discarded : goal.returns-clause-discarded
returns-clause-discarded c = λ h limits rows message syntax are sound levels.
    told_discarded h rows limits message syntax stands_whole (λ here study series image. status_says_whole h rows sound (sent_in message syntax) here study series image levels)
    (c.made_data_sets_are_read_back.ensures message.octets syntax are)
