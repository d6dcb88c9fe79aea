use Rattle.kv_host.specs.Calm.{IsCalm-called, IsCalm-takes}
use Rattle.kv_host.proofs.memory.MemHostHost.write_file.Goals as goal

pub returns-clause-calm : goal.returns-clause-calm
returns-clause-calm c names room fewer less calm =
    IsCalm-takes c.next_call_fails-listed.new.self c.put_file.new.self c.put_file.result c.args.name.now c.args.bytes.now names room fewer less
    c.put_file.ensures.taken.1 c.put_file.ensures.stored (IsCalm-called _ _ _ _ c.next_call_fails-listed.ensures.counted calm)
