-- The events of the small scripts, computed.
use Rattle.std.proofs.Common.{refl}
use Rattle.vic_wire.specs.Reading.{read_request, request_of_kind, read_answer, answer_of_kind}
use Rattle.vic_rules.specs.Client.{step, verdict}
use Rattle.vic_rules.specs.History.{standing}
use Rattle.vic_order.specs.Order.{serve}
use Rattle.vic_order.specs.Scenes.{after_step, after_serving, after_taking}
use Rattle.vic_script.specs.Lines.{lines_of, line_of, words_of}
use Rattle.vic_script.specs.Scenes.{bad_kind, events_of_turns}
use Rattle.vic_script_runs.specs.Events.{events_from, script_events}
use Rattle.vic_script.specs.Run.{run_from, run_of}
use Rattle.vic_script_runs.specs.Rows.{SmallScriptIs, SmallObjectsScriptIs, ForkScriptIs, ForkScriptForks, KeysStandBefore, HeadersHaveThem, KindsHaveNames, NamesAreOfKinds}

pub small_script_is : SmallScriptIs
unfolding script_events events_from lines_of words_of line_of bad_kind events_of_turns standing step verdict after_step after_serving after_taking serve read_request request_of_kind read_answer answer_of_kind
small_script_is = refl

pub small_objects_script_is : SmallObjectsScriptIs
unfolding script_events events_from lines_of words_of line_of bad_kind events_of_turns standing step verdict after_step after_serving after_taking serve read_request request_of_kind read_answer answer_of_kind
small_objects_script_is = refl

pub fork_script_is : ForkScriptIs
unfolding script_events events_from lines_of words_of line_of bad_kind events_of_turns standing step verdict after_step after_serving after_taking serve read_request request_of_kind read_answer answer_of_kind
fork_script_is = refl

pub fork_script_forks : ForkScriptForks
unfolding run_of run_from lines_of words_of line_of bad_kind events_of_turns standing step verdict after_step after_serving after_taking serve read_request request_of_kind read_answer answer_of_kind
fork_script_forks = (refl, refl)

pub keys_stand_before : KeysStandBefore
unfolding run_of run_from lines_of words_of line_of bad_kind
keys_stand_before = (refl, refl, refl)

pub headers_have_them : HeadersHaveThem
unfolding run_of run_from lines_of words_of line_of bad_kind standing step verdict after_step
headers_have_them = (refl, refl)

pub kinds_have_names : KindsHaveNames
unfolding run_of run_from lines_of words_of line_of bad_kind
kinds_have_names = (refl, refl, refl)

pub names_are_of_kinds : NamesAreOfKinds
unfolding run_of run_from lines_of words_of line_of bad_kind standing step verdict after_step
names_are_of_kinds = (refl, refl, refl, refl, refl, refl, refl, refl)
