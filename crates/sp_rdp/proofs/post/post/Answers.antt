use Rattle.sp_rdp.proofs.PostReads.{reads_short}
use Rattle.sp_rdp.proofs.post.post.Goals as goal

pub returns-in-Ok-clause-read_back : goal.returns-in-Ok-clause-read_back
returns-in-Ok-clause-read_back c = λ limits more.
    reads_short c.args.target.now c.args.host.now c.args.properties.now c.args.payload.now more
    limits c.as_slice-2.ensures.form c.as_slice.ensures.bound

pub returns-in-Err-clause-read_back : goal.returns-in-Err-clause-read_back
returns-in-Err-clause-read_back c = λ limits more.
    reads_short c.args.target.now c.args.host.now c.args.properties.now c.args.payload.now more
    limits c.as_slice-2.ensures.form c.as_slice.ensures.bound
