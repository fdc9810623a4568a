use Rattle.std.specs.Prelude.{string_bytes}
use Rattle.dh_chains.proofs.LinesLemmas.{none-written, one-written, two-written}
use Rattle.dh_chains.proofs.lines.push_following.Goals as goal

pub returns-in_default : goal.returns-in_default
returns-in_default c = none-written c.args.timetable.now (string_bytes c.args.text.now) c.args.chain.now.second c.args.chain.now.third
    c.in_default.is

pub returns-in_default-third : goal.returns-in_default-third
returns-in_default-third c =
    one-written c.args.timetable.now (string_bytes c.args.text.now) (string_bytes c.push_deadhead.new.text) c.args.chain.now.second
    c.args.chain.now.third c.in-Some.second
    c.in-Some.is c.in_default-third.is c.in_ok-push_deadhead.ensures

pub returns : goal.returns
returns c =
    two-written c.args.timetable.now (string_bytes c.args.text.now) (string_bytes c.push_deadhead.new.text)
    (string_bytes c.push_deadhead-2.new.text) c.args.chain.now.second c.args.chain.now.third
    c.in-Some.second c.in-Some-third.third c.in-Some.is c.in-Some-third.is c.in_ok-push_deadhead.ensures c.in_ok-push_deadhead-2.ensures
