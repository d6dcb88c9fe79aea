use Rattle.aes_lanes.proofs.rounds.last_round.Goals as goal

pub returns : goal.returns
returns c place block round_key p h key =
    c.add_round_key.ensures place _ round_key (c.shift_rows.ensures place _ (c.substituted.ensures place block p h)) key
