use Rattle.dom_select.proofs.matcher.Matcher.new.Goals as goal

pub returns-clause-refused : goal.returns-clause-refused
returns-clause-refused c = tt
