use Rattle.vic_script_runs.proofs.Rows.{keys_stand_before, headers_have_them, kinds_have_names, names_are_of_kinds}
use Rattle.vic_script_runs.proofs.hostile_lines_are.Goals as goal

pub returns-clause-keys : goal.returns-clause-keys
returns-clause-keys c = keys_stand_before

pub returns-clause-headers : goal.returns-clause-headers
returns-clause-headers c = headers_have_them

pub returns-clause-words : goal.returns-clause-words
returns-clause-words c = kinds_have_names

pub returns-clause-kinds : goal.returns-clause-kinds
returns-clause-kinds c = names_are_of_kinds
