use Rattle.std.proofs.Common.{◌∙◌, rules, tests}
use Rattle.std.specs.Str.{bytes_eq}
use Rattle.std.proofs.lemmas.Iterator.{YieldsList-from_slice}
use Rattle.std.proofs.lemmas.Iterator.Search.{find_from_yields_List}
use Rattle.dq_assoc.specs.declared.classes.SopClass.{SopClass}
use Rattle.dq_assoc.specs.Classes.{uid_of, served_classes, class_of}
use Rattle.dq_assoc.proofs.classes.SopClass.of.Goals as goal

pub returns : goal.returns
unfolding class_of
returns c =
    c.copied.ensures
    ∙ find_from_yields_List (λ (class : SopClass). bytes_eq (uid_of class) c.args.uid.now) _ _ c.find.result c.find.ensures.ran
    (YieldsList-from_slice served_classes cc) (λ x b q k. search (rules, tests))
