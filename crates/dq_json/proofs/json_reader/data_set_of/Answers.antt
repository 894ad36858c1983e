use Rattle.std.proofs.lemmas.Result.{err_from_is_err_and}
use Rattle.json.specs.Value.{value_view}
use Rattle.dq_json.proofs.Reading.{form_fault, spelled_so}
use Rattle.dq_json.proofs.json_reader.data_set_of.Goals as goal

pub returns-in_err-data_set-clause-fault : goal.returns-in_err-data_set-clause-fault
returns-in_err-data_set-clause-fault c =
    let p = err_from_is_err_and c.from_residual-in_err-data_set.result c.from_residual-in_err-data_set.ensures.1 in
    let told = rw c.in-Ok.ensures.cases.0 at c.in_ok-value.ensures in
    rw (p.1, p.2) (form_fault c.args.octets.now (value_view c.in_ok-value.value) _ told c.in_err-data_set.ensures.exact)

pub returns-clause-spelled : goal.returns-clause-spelled
returns-clause-spelled c =
    let told = rw c.in-Ok.ensures.cases.0 at c.in_ok-value.ensures in
    let is = rw c.in-Ok.ensures.cases.0 at c.in_ok-marked.ensures in (
      c.in-Ok.ensures.cases.1,
      (
        value_view c.in_ok-value.value,
        told,
        spelled_so c.args.octets.now (value_view c.in_ok-value.value) c.in_ok-data_set.data_set c.in_ok-marked.field-0
            c.in_ok-data_set.ensures.exact is,
      ),
    )
