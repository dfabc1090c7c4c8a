use Rattle.std.proofs.Common.{subst, ◌∙◌, ◌++◌, codes}
use Rattle.outside.specs.Sending.{Sends}
use Rattle.http_resp.proofs.RepliesLemmas.{no_memory_is}
use Rattle.http_resp.proofs.replies.reply_no_memory.Goals as goal

pub returns : goal.returns
returns g c =
    subst (λ bytes. Sends (g.K.Sink.taken c.args.sink.now) (g.K.Sink.faults c.args.sink.now) bytes c.write_all.result (g.K.Sink.taken c.write_all.new.sink) (g.K.Sink.faults c.write_all.new.sink))
    {x = codes "HTTP/1.1 503 Service Unavailable\r\nDate: " ++ (c.copy_from_slice.new.self ++ codes "\r\nServer: AOLserver-profile/1\r\nContent-Type: text/plain\r\nContent-Length: 14\r\nConnection: close\r\n\r\nout of memory\n")}
    (no_memory_is c.args.moment c.copy_from_slice.new.self (c.copy_from_slice.ensures.after ∙ c.fixdate.ensures)) c.write_all.ensures
