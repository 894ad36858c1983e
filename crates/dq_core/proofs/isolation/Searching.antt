-- What queries are answered with.
use Rattle.std.proofs.Common.{◌≡◌, ◌==◌, ℕ, Bool, true, List, [], Ok, refl, ap}
use Rattle.std.specs.Str.{bytes_eq}
use Rattle.std.proofs.lemmas.Slice.Eq.{bytes_eq-Decides}
use Rattle.dq_core.proofs.isolation.Vocabulary.{ElementList, c_find, Message, success, AcceptedContext, Agreement, StudyRootFind, WorklistFind, service_of, uid_of, Limits, Record, message_outcome}
use Rattle.dq_find.specs.declared.query.Query.{Query}
use Rattle.dq_find.specs.Queries as study
use Rattle.dq_worklist.specs.Queries as worklist

pub study_search : (agreement : Agreement) (context : AcceptedContext) (limits : Limits)
    (message : Message) (records : List Record) (query : Query)
    → service_of context.class ≡ StudyRootFind → message.command.code ≡ c_find
    → message.command.sop_class ≡ uid_of context.class
    → study.message_query message context.syntax ≡ Ok query
    → message_outcome agreement context limits message records
    ≡ (
      record {
        status = success;
        optional = query.optional;
        answers = study.answers_of_records records agreement.called query;
      },
      [],
    )
unfolding study.query_outcome
study_search agreement context limits message records query service finds is asked =
    let named : (message.command.code == c_find) ≡ true = ap (λ (code : ℕ). code == c_find) finds in
    let same : bytes_eq message.command.sop_class (uid_of context.class) ≡ true =
    (bytes_eq-Decides message.command.sop_class (uid_of context.class)).1 is in rw (service, named, same, asked) refl

pub worklist_search : (agreement : Agreement) (context : AcceptedContext) (limits : Limits)
    (message : Message) (records : List Record) (keys : ElementList) (optional : Bool)
    → service_of context.class ≡ WorklistFind → message.command.code ≡ c_find
    → message.command.sop_class ≡ uid_of context.class
    → worklist.worklist_query message context.syntax ≡ Ok (record { keys = keys; optional = optional })
    → message_outcome agreement context limits message records
    ≡ (record { status = success; optional = optional; answers = worklist.answers_of_entries records keys }, [])
unfolding worklist.worklist_outcome
worklist_search agreement context limits message records keys optional service finds is asked =
    let named : (message.command.code == c_find) ≡ true = ap (λ (code : ℕ). code == c_find) finds in
    let same : bytes_eq message.command.sop_class (uid_of context.class) ≡ true =
    (bytes_eq-Decides message.command.sop_class (uid_of context.class)).1 is in rw (service, named, same, asked) refl
