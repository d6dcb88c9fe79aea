use Rattle.flash_sim.specs.Views.{view_of}
use Rattle.kv_cli.specs.Asked.{asked_in}
use Rattle.kv_cli.proofs.RunLemmas.{opened_armed, opened_steady, sound_chip}
use Rattle.kv_cli.proofs.run.open.Goals as goal

pub plain-requires-clause-sound : goal.plain-requires-clause-sound
plain-requires-clause-sound c = sound_chip c.new.result c.args.asked.geometry c.args.image.items c.new.ensures

pub returns-in_ok-arm-in-Some : goal.returns-in_ok-arm-in-Some
returns-in_ok-arm-in-Some c =
    opened_armed (asked_in c.args.asked) c.args.image.items c.requires.can.valid (view_of c.new.result) c.in_ok-session.session c.new.ensures c.in_ok-session.ensures.is
    c.in-Some.cut c.arm.new.self c.in-Some.cut.n c.in-Some.cut.pattern _ c.in-Some.is c.in_ok-session.ensures.power c.in_ok-session.ensures.log
    c.in_ok-arm-in-Some.ensures.arms c.in_ok-arm-in-Some.ensures.armed

pub returns-in-None : goal.returns-in-None
returns-in-None c =
    opened_steady (asked_in c.args.asked) c.args.image.items c.requires.can.valid (view_of c.new.result) c.in_ok-session.session c.new.ensures c.in_ok-session.ensures.is
    c.in-None.is c.in_ok-session.ensures.power c.in_ok-session.ensures.log
