use Rattle.dq_app.proofs.checking.list_over.Goals as goal

-- the tables were only read
pub returns-clause-lines : goal.returns-clause-lines
returns-clause-lines g c = (
  c.counted_list_of.new.counts.tables,
  λ honest. ((c.in_ok-text.ensures.leads honest).0, c.in_ok-text.ensures.lines honest),
)
