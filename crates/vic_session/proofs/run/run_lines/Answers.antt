use Rattle.std.proofs.Common.{◌≡◌, ◌≤◌, List, ℕ, None, Ok, Err, length, refl, sym, subst, rules, arith}
use Rattle.vic_rules.specs.Client.{at_start}
use Rattle.vic_client.specs.Kept.{KeptClient, kept_group}
use Rattle.vic_script.specs.Lines.{lines_of}
use Rattle.vic_script.specs.Run.{script_limit}
use Rattle.vic_session.specs.declared.wire.WireFault.{WireFault}
use Rattle.vic_session.specs.declared.wire.WireFault.TheVariants as fault
use Rattle.vic_session.specs.declared.place.At.{At}
use Rattle.vic_session.specs.declared.place.At.TheVariants as at
use Rattle.vic_session.specs.Talks.{talk, talker, fresh_talk, talk_after_payload}
use Rattle.vic_session.specs.Talking.{GoesTo, MaySend, IsBusy, IsFine, PrintsFront, IsShortOf}
use Rattle.vic_session.specs.Wires.{Asks}
use Rattle.vic_session.specs.Running.{Greeted}
use Rattle.vic_session.specs.Sessions.{IsLeftAt}
use Rattle.vic_session.proofs.Falls.{rank_falls}
use Rattle.vic_session.proofs.Sessions.{not_greeted, not_well, on_begin, going_start, no_start, going_more, no_hearing, unanswered, bad_line, halts, parted}
use Rattle.vic_session.proofs.run.run_lines.Goals as goal

pub returns-in-Err-clause-did : goal.returns-in-Err-clause-did
returns-in-Err-clause-did g c =
    not_greeted (kept_group c.args.client.now) c.args.client.now.id c.args.script.now (g.L.Link.told c.args.link.now) c.args.out.now c.in-Err.end c.greet.new.reader (g.L.Link.told c.greet.new.link) c.args.client.now (refl, (refl, c.requires))
    (subst (λ (b : List ℕ). Greeted (kept_group c.args.client.now) c.args.client.now.id b c.greet.new.reader (g.L.Link.told c.args.link.now) (g.L.Link.told c.greet.new.link) (Err c.in-Err.end)) c.new-reader.ensures c.in-Err.ensures)

pub returns-in-Err-go_on-clause-did : goal.returns-in-Err-go_on-clause-did
returns-in-Err-go_on-clause-did g c =
    no_start (kept_group c.args.client.now) c.args.client.now.id c.args.script.now (g.L.Link.told c.args.link.now) c.args.out.now c.greet.new.reader (g.L.Link.told c.greet.new.link) (subst (λ (b : List ℕ). Greeted (kept_group c.args.client.now) c.args.client.now.id b c.greet.new.reader (g.L.Link.told c.args.link.now) (g.L.Link.told c.greet.new.link) (Ok tt)) c.new-reader.ensures c.in-Ok.ensures) c.go_on.new.client c.go_on.new.out
    (subst (λ (k : KeptClient). IsLeftAt (kept_group c.args.client.now) c.args.client.now.id at_start k) (sym c.in-Err-go_on.ensures.stays) (refl, (refl, c.requires)))
    (c.in-Err-go_on.ensures.went (talker (kept_group c.args.client.now) c.args.client.now.id c.args.script.now) (record (fresh_talk at_start) { lines = lines_of c.args.script.now }) c.args.out.now (on_begin (kept_group c.args.client.now) c.args.client.now.id c.args.script.now (g.L.Link.told c.args.link.now) c.args.out.now c.args.client.now (record { rest = c.args.script; total = length c.args.script.now; behind = 0; number = 0; doing = at.Leaves }) refl refl c.requires refl refl refl refl))

pub answers-init : goal.answers-init
answers-init g c = record {
  going = going_start (kept_group c.args.client.now) c.args.client.now.id c.args.script.now (g.L.Link.told c.args.link.now) c.args.out.now c.greet.new.reader (g.L.Link.told c.greet.new.link) (subst (λ (b : List ℕ). Greeted (kept_group c.args.client.now) c.args.client.now.id b c.greet.new.reader (g.L.Link.told c.args.link.now) (g.L.Link.told c.greet.new.link) (Ok tt)) c.new-reader.ensures c.in-Ok.ensures) c.go_on.new.client c.go_on.new.place c.go_on.new.out c.in-Ok-go_on.sent
      (c.in-Ok-go_on.ensures.went (talker (kept_group c.args.client.now) c.args.client.now.id c.args.script.now) (record (fresh_talk at_start) { lines = lines_of c.args.script.now }) c.args.out.now (on_begin (kept_group c.args.client.now) c.args.client.now.id c.args.script.now (g.L.Link.told c.args.link.now) c.args.out.now c.args.client.now (record { rest = c.args.script; total = length c.args.script.now; behind = 0; number = 0; doing = at.Leaves }) refl refl c.requires refl refl refl refl));
  fine = c.in-Ok-go_on.ensures.fine;
  sends = c.in-Ok-go_on.ensures.sends;
  fits = c.in-Ok-go_on.ensures.fits;
  total = search rules;
  size = search rules;
}

pub returns-in-Leaves-clause-did : goal.returns-in-Leaves-clause-did
returns-in-Leaves-clause-did g c =
    let none : c.answers.pending ≡ None = subst (λ (a : At). MaySend a c.answers.pending) c.in-Leaves.is c.answers.invariant.sends in
    parted (kept_group c.args.client.now) c.args.client.now.id c.args.script.now (g.L.Link.told c.args.link.now) c.args.out.now (g.L.Link.told c.answers.link) c.answers.reader c.answers.client c.answers.place c.answers.out c.answers.pending c.answers.invariant.going none c.in-Leaves.is c.leave.result c.leave.new.reader (g.L.Link.told c.leave.new.link) c.leave.new.out c.leave.ensures

pub returns-in-Bad-clause-did : goal.returns-in-Bad-clause-did
returns-in-Bad-clause-did g c =
    let none : c.answers.pending ≡ None = subst (λ (a : At). MaySend a c.answers.pending) c.in-Bad.is c.answers.invariant.sends in
    bad_line (kept_group c.args.client.now) c.args.client.now.id c.args.script.now (g.L.Link.told c.args.link.now) c.args.out.now (g.L.Link.told c.answers.link) c.answers.reader c.answers.client c.answers.place c.answers.out c.answers.pending c.answers.invariant.going none c.in-Bad.kind c.in-Bad.is

pub returns-in-Halts-clause-did : goal.returns-in-Halts-clause-did
returns-in-Halts-clause-did g c =
    let none : c.answers.pending ≡ None = subst (λ (a : At). MaySend a c.answers.pending) c.in-Halts.is c.answers.invariant.sends in
    halts (kept_group c.args.client.now) c.args.client.now.id c.args.script.now (g.L.Link.told c.args.link.now) c.args.out.now (g.L.Link.told c.answers.link) c.answers.reader c.answers.client c.answers.place c.answers.out c.answers.pending c.answers.invariant.going none c.in-Halts.check c.in-Halts.hash c.in-Halts.is

pub returns-in-Err-Link-clause-did : goal.returns-in-Err-Link-clause-did
returns-in-Err-Link-clause-did g c =
    let busy : IsBusy c.answers.place.doing = search rules in
    let a = subst (λ (f : WireFault). Asks c.answers.pending c.answers.reader c.ask.new.reader (g.L.Link.told c.answers.link) (g.L.Link.told c.ask.new.link) (Err f)) c.in-Err-Link.field-0-is c.in-Err-Link.ensures in
    unanswered (kept_group c.args.client.now) c.args.client.now.id c.args.script.now (g.L.Link.told c.args.link.now) c.args.out.now (g.L.Link.told c.answers.link) c.answers.reader c.answers.client c.answers.place c.answers.out c.answers.pending c.answers.invariant.going fault.Link c.ask.new.reader (g.L.Link.told c.ask.new.link) busy a

pub returns-in-Err-Length-clause-did : goal.returns-in-Err-Length-clause-did
returns-in-Err-Length-clause-did g c =
    let busy : IsBusy c.answers.place.doing = search rules in
    let a = subst (λ (f : WireFault). Asks c.answers.pending c.answers.reader c.ask.new.reader (g.L.Link.told c.answers.link) (g.L.Link.told c.ask.new.link) (Err f)) c.in-Err-Length.field-0-is c.in-Err-Length.ensures in
    unanswered (kept_group c.args.client.now) c.args.client.now.id c.args.script.now (g.L.Link.told c.args.link.now) c.args.out.now (g.L.Link.told c.answers.link) c.answers.reader c.answers.client c.answers.place c.answers.out c.answers.pending c.answers.invariant.going fault.Length c.ask.new.reader (g.L.Link.told c.ask.new.link) busy a

pub returns-in-Err-NoMemory-clause-did : goal.returns-in-Err-NoMemory-clause-did
returns-in-Err-NoMemory-clause-did g c =
    let busy : IsBusy c.answers.place.doing = search rules in
    let a = subst (λ (f : WireFault). Asks c.answers.pending c.answers.reader c.ask.new.reader (g.L.Link.told c.answers.link) (g.L.Link.told c.ask.new.link) (Err f)) c.in-Err-NoMemory.field-0-is c.in-Err-NoMemory.ensures in
    unanswered (kept_group c.args.client.now) c.args.client.now.id c.args.script.now (g.L.Link.told c.args.link.now) c.args.out.now (g.L.Link.told c.answers.link) c.answers.reader c.answers.client c.answers.place c.answers.out c.answers.pending c.answers.invariant.going fault.NoMemory c.ask.new.reader (g.L.Link.told c.ask.new.link) busy a

pub returns-in-Err-hear-clause-did : goal.returns-in-Err-hear-clause-did
returns-in-Err-hear-clause-did g c =
    let busy : IsBusy c.answers.place.doing = search rules in
    no_hearing (kept_group c.args.client.now) c.args.client.now.id c.args.script.now (g.L.Link.told c.args.link.now) c.args.out.now (g.L.Link.told c.answers.link) c.answers.reader c.answers.client c.answers.place c.answers.out c.answers.pending c.answers.invariant.going c.ask.new.reader c.in-Ok-ask.payload (g.L.Link.told c.ask.new.link) busy c.in-Ok-ask.ensures c.hear.new.client c.hear.new.out
    (subst (λ (x : List ℕ). IsShortOf (talker (kept_group c.args.client.now) c.args.client.now.id c.args.script.now) (talk (talker (kept_group c.args.client.now) c.args.client.now.id c.args.script.now) c.args.script.now c.answers.invariant.going.taken) x c.hear.new.client) c.as_slice.ensures
    (c.in-Err-hear.ensures.short (talker (kept_group c.args.client.now) c.args.client.now.id c.args.script.now) (talk (talker (kept_group c.args.client.now) c.args.client.now.id c.args.script.now) c.args.script.now c.answers.invariant.going.taken) c.args.out.now c.answers.invariant.going.on c.answers.invariant.going.doing))
    (subst (λ (x : List ℕ). PrintsFront c.args.out.now (talk_after_payload (talker (kept_group c.args.client.now) c.args.client.now.id c.args.script.now) (talk (talker (kept_group c.args.client.now) c.args.client.now.id c.args.script.now) c.args.script.now c.answers.invariant.going.taken) x) c.hear.new.out) c.as_slice.ensures
    (c.in-Err-hear.ensures.went (talker (kept_group c.args.client.now) c.args.client.now.id c.args.script.now) (talk (talker (kept_group c.args.client.now) c.args.client.now.id c.args.script.now) c.args.script.now c.answers.invariant.going.taken) c.args.out.now c.answers.invariant.going.on c.answers.invariant.going.doing))

pub answers-preserved : goal.answers-preserved
answers-preserved g c =
    let busy : IsBusy c.answers.place.doing = search rules in
    record {
      going = going_more (kept_group c.args.client.now) c.args.client.now.id c.args.script.now (g.L.Link.told c.args.link.now) c.args.out.now (g.L.Link.told c.answers.link) c.answers.reader c.answers.client c.answers.place c.answers.out c.answers.pending c.answers.invariant.going c.ask.new.reader c.in-Ok-ask.payload (g.L.Link.told c.ask.new.link) busy c.in-Ok-ask.ensures c.hear.new.client c.hear.new.place c.hear.new.out c.in-Ok-hear.sent
          (subst (λ (x : List ℕ). GoesTo (talker (kept_group c.args.client.now) c.args.client.now.id c.args.script.now) (talk (talker (kept_group c.args.client.now) c.args.client.now.id c.args.script.now) c.args.script.now c.answers.invariant.going.taken) (talk_after_payload (talker (kept_group c.args.client.now) c.args.client.now.id c.args.script.now) (talk (talker (kept_group c.args.client.now) c.args.client.now.id c.args.script.now) c.args.script.now c.answers.invariant.going.taken) x) c.args.out.now c.hear.new.client c.hear.new.place c.hear.new.out (Ok c.in-Ok-hear.sent)) c.as_slice.ensures
          (c.in-Ok-hear.ensures.went (talker (kept_group c.args.client.now) c.args.client.now.id c.args.script.now) (talk (talker (kept_group c.args.client.now) c.args.client.now.id c.args.script.now) c.args.script.now c.answers.invariant.going.taken) c.args.out.now c.answers.invariant.going.on c.answers.invariant.going.doing));
      fine = c.in-Ok-hear.ensures.fine;
      sends = c.in-Ok-hear.ensures.sends;
      fits = c.in-Ok-hear.ensures.fits;
      total = search rules;
      size = search rules;
    }

pub returns-in-Err-clause-whole : goal.returns-in-Err-clause-whole
returns-in-Err-clause-whole g c = λ e.
    absurd (not_well (kept_group c.args.client.now) c.args.client.now.id c.new-reader.result c.greet.new.reader (g.L.Link.told c.args.link.now) (g.L.Link.told c.greet.new.link) c.in-Err.end e c.in-Err.ensures)

pub returns-in-Leaves-clause-whole : goal.returns-in-Leaves-clause-whole
returns-in-Leaves-clause-whole g c = λ e.
    let most : c.answers.place.total ≤ script_limit = subst (λ (a : At). IsFine a c.answers.place) c.in-Leaves.is c.answers.invariant.fine in
    omega (arith, most, c.answers.invariant.size)

pub answers-smaller : goal.answers-smaller
answers-smaller g c =
    let busy : IsBusy c.answers.place.doing = search rules in
    let went = subst (λ (x : List ℕ). GoesTo (talker (kept_group c.args.client.now) c.args.client.now.id c.args.script.now) (talk (talker (kept_group c.args.client.now) c.args.client.now.id c.args.script.now) c.args.script.now c.answers.invariant.going.taken) (talk_after_payload (talker (kept_group c.args.client.now) c.args.client.now.id c.args.script.now) (talk (talker (kept_group c.args.client.now) c.args.client.now.id c.args.script.now) c.args.script.now c.answers.invariant.going.taken) x) c.args.out.now c.hear.new.client c.hear.new.place c.hear.new.out (Ok c.in-Ok-hear.sent)) c.as_slice.ensures
    (c.in-Ok-hear.ensures.went (talker (kept_group c.args.client.now) c.args.client.now.id c.args.script.now) (talk (talker (kept_group c.args.client.now) c.args.client.now.id c.args.script.now) c.args.script.now c.answers.invariant.going.taken) c.args.out.now c.answers.invariant.going.on c.answers.invariant.going.doing) in
    rank_falls (talker (kept_group c.args.client.now) c.args.client.now.id c.args.script.now) (talk (talker (kept_group c.args.client.now) c.args.client.now.id c.args.script.now) c.args.script.now c.answers.invariant.going.taken) c.args.out.now c.in-Ok-ask.payload c.answers.client c.hear.new.client c.answers.place c.hear.new.place c.answers.out c.hear.new.out c.answers.invariant.going.on c.answers.invariant.going.doing busy went.on went.doing
