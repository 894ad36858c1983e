use Rattle.std.proofs.Common.{List, map, ap, ◌∙◌}
use Rattle.std.proofs.lemmas.List.{map-append}
use Rattle.dq_assoc.specs.Roles.{Role}
use Rattle.dq_assoc.specs.Roles.{role_of}
use Rattle.dq_assoc.specs.After.{association_by, inputs_by}
use Rattle.dq_assoc.proofs.FromHere.{inputs-append, association-append}
use Rattle.dq_assoc.proofs.OnePdu.{after-more}
use Rattle.dq_assoc.proofs.laws.pdus_in_parts.Goals as goal

pub returns : goal.returns
returns c = record {
  after = after-more;
  inputs = λ pdus more fault h.
      ap (λ (roles : List Role). inputs_by h roles fault) (map-append role_of pdus more) ∙ inputs-append h (map role_of pdus) (map role_of more) fault;
  association = λ pdus more h. ap (association_by h) (map-append role_of pdus more) ∙ association-append h (map role_of pdus) (map role_of more);
}
