-- What is left of an option and of a command once one thing more is said of it.
use Rattle.std.proofs.Common.{◌≡◌, List, ℕ, Bool, Some, true, refl, ap}
use Rattle.std.specs.Borrow.{Bor}
use Rattle.clap.specs.declared.builder.action.ArgAction.TheVariants.{Append, SetTrue}
use Rattle.clap.specs.declared.builder.arg.Arg.{Arg}
use Rattle.clap.specs.declared.builder.texts.Texts.TheVariants.{One}
use Rattle.clap.specs.declared.builder.command.Command.{Command}
use Rattle.clap.specs.declared.builder.command.Command.TheViews.{out-Command as fields_of}
use Rattle.clap.specs.declared.builder.command.Command.TheOpen.{Command-F}
use Rattle.clap.specs.Simple.{app_of_fields}
use Rattle.clap.specs.Words.{Rule, app_of, rule_of}
use Rattle.dq_cli.specs.Clap.{with_version}

-- its rule, and that it is still asked for in its own command alone
pub record IsOption (a b : Arg) (rule : Rule) : Type 0 where
  pub rule_is : rule_of b ≡ rule
  pub global_is : b.global ≡ a.global

pub helped : (a b : Arg) (text : Bor (List ℕ)) → b ≡ record a { help = Some text } → IsOption a b (rule_of a)
helped a b text is = rw is (record { rule_is = refl; global_is = refl })

pub named : (a b : Arg) (name : Bor (List ℕ)) → b ≡ record a { val_names = One name } → IsOption a b (record (rule_of a) { value_names = 1 })
named a b name is = rw is (record { rule_is = refl; global_is = refl })

pub called : (a b : Arg) (name : Bor (List ℕ)) → b ≡ record a { long = Some name } → IsOption a b (record (rule_of a) { long = Some name.now })
called a b name is = rw is (record { rule_is = refl; global_is = refl })

pub needed : (a b : Arg) → b ≡ record a { required = true } → IsOption a b (record (rule_of a) { required = true })
needed a b is = rw is (record { rule_is = refl; global_is = refl })

pub flagged : (a b : Arg) → b ≡ record a { action = Some SetTrue } → IsOption a b (record (rule_of a) { action = Some SetTrue })
flagged a b is = rw is (record { rule_is = refl; global_is = refl })

pub repeated : (a b : Arg) → b ≡ record a { action = Some Append } → IsOption a b (record (rule_of a) { action = Some Append })
repeated a b is = rw is (record { rule_is = refl; global_is = refl })

-- a command, once its texts for help are said: its shape, and that no option of it is asked for everywhere
pub record IsToldOf (a b : Command) : Type 0 where
  pub app_is : app_of b ≡ app_of a
  pub globals_are : (fields_of b).has_globals ≡ (fields_of a).has_globals

abbrev globals : Command-F Command → Bool
globals c = c.has_globals

pub about : (a b : Command) (text : Bor (List ℕ)) → fields_of b ≡ record (fields_of a) { about = Some text } → IsToldOf a b
about a b text is = record { app_is = ap app_of_fields is; globals_are = ap globals is }

pub after_help : (a b : Command) (text : Bor (List ℕ)) → fields_of b ≡ record (fields_of a) { after_help = Some text } → IsToldOf a b
after_help a b text is = record { app_is = ap app_of_fields is; globals_are = ap globals is }

-- a command, once its version is said
pub record IsVersionOf (a b : Command) : Type 0 where
  pub app_is : app_of b ≡ with_version (app_of a)
  pub globals_are : (fields_of b).has_globals ≡ (fields_of a).has_globals

pub version : (a b : Command) (text : Bor (List ℕ)) → fields_of b ≡ record (fields_of a) { version = Some text } → IsVersionOf a b
version a b text is = record { app_is = ap app_of_fields is; globals_are = ap globals is }
