use Rattle.kv_model.proofs.laws.a_stopped_store_refuses.Goals as goal

pub returns : goal.returns
returns c rules state doubt who operation stopped = simp stopped
