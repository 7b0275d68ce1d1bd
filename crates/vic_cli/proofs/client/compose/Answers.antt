use Rattle.std.proofs.Common.{Option, map, subst}
use Rattle.std.specs.Prelude.{string_bytes}
use Rattle.vic_client.specs.Kept.{KeptClient}
use Rattle.vic_cli.specs.ClientWords.{client_words, IsClientOf}
use Rattle.vic_cli.proofs.ClientEnding.{stands_known, plans_known, none_known}
use Rattle.vic_cli.proofs.Sources.{takes_nothing}
use Rattle.vic_cli.proofs.client.compose.Goals as goal

pub compose_client-requires : goal.compose_client-requires
compose_client-requires g c =
    let is = subst (λ (o : Option KeptClient). IsClientOf (client_words (map string_bytes c.args.words.now)) o) c.in-Ok-Some.field-0-is c.in-Ok-Some.ensures in
    stands_known (client_words (map string_bytes c.args.words.now)) c.in-Ok-Some.client is

pub returns-in-Ok-Some-clause-plans : goal.returns-in-Ok-Some-clause-plans
returns-in-Ok-Some-clause-plans g c =
    let is = subst (λ (o : Option KeptClient). IsClientOf (client_words (map string_bytes c.args.words.now)) o) c.in-Ok-Some.field-0-is c.in-Ok-Some.ensures in
    plans_known (client_words (map string_bytes c.args.words.now)) c.in-Ok-Some.client _ _ _ _ _ is c.compose_client.ensures.plans

pub returns-in-Ok-Some-clause-unread : goal.returns-in-Ok-Some-clause-unread
returns-in-Ok-Some-clause-unread g c = λ none.
    let is = subst (λ (o : Option KeptClient). IsClientOf (client_words (map string_bytes c.args.words.now)) o) c.in-Ok-Some.field-0-is c.in-Ok-Some.ensures in
    absurd (none_known (client_words (map string_bytes c.args.words.now)) c.in-Ok-Some.client is none)

pub returns-in-Ok-None-clause-taken : goal.returns-in-Ok-None-clause-taken
returns-in-Ok-None-clause-taken g c = takes_nothing (g.S.Source.left c.args.source.now)

pub returns-in-Err-clause-taken : goal.returns-in-Err-clause-taken
returns-in-Err-clause-taken g c = takes_nothing (g.S.Source.left c.args.source.now)
