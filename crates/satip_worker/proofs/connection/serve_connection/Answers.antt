use Rattle.satip_worker.proofs.CauseLemmas.{calm_of_done, cause_of_read_fault, cause_of_write_fault, cause_of_spent, cause_of_want}
use Rattle.satip_worker.proofs.connection.serve_connection.Goals as goal

pub returns-in-Rtsp-clause-serves : goal.returns-in-Rtsp-clause-serves
returns-in-Rtsp-clause-serves g c = λ key stream from are. rw c.in-Rtsp.is (c.serve_rtsp.ensures.serves key stream from are)

pub returns-in-Rtsp-clause-calm : goal.returns-in-Rtsp-clause-calm
returns-in-Rtsp-clause-calm g c = λ is.
    let known = c.known.ensures.stands in
    calm_of_done _ _ _ _ _ _ _ _ (c.serve_rtsp.ensures.serves known.0 known.1 known.2 known.3).2 is

pub returns-in-Rtsp-clause-read_fault : goal.returns-in-Rtsp-clause-read_fault
returns-in-Rtsp-clause-read_fault g c = λ is.
    let known = c.known.ensures.stands in
    cause_of_read_fault _ _ _ _ _ _ _ _ (c.serve_rtsp.ensures.serves known.0 known.1 known.2 known.3).2 is

pub returns-in-Rtsp-clause-write_fault : goal.returns-in-Rtsp-clause-write_fault
returns-in-Rtsp-clause-write_fault g c = λ is.
    let known = c.known.ensures.stands in
    cause_of_write_fault _ _ _ _ _ _ _ _ (c.serve_rtsp.ensures.serves known.0 known.1 known.2 known.3).2 is

pub returns-in-Rtsp-clause-spent : goal.returns-in-Rtsp-clause-spent
returns-in-Rtsp-clause-spent g c = λ is.
    let known = c.known.ensures.stands in
    cause_of_spent _ _ _ _ _ _ _ _ (c.serve_rtsp.ensures.serves known.0 known.1 known.2 known.3).2 is

pub returns-in-Rtsp-clause-want : goal.returns-in-Rtsp-clause-want
returns-in-Rtsp-clause-want g c = λ is.
    let known = c.known.ensures.stands in
    cause_of_want _ _ _ _ _ _ _ _ (c.serve_rtsp.ensures.serves known.0 known.1 known.2 known.3).2 is

pub returns-in-Http-clause-serves : goal.returns-in-Http-clause-serves
returns-in-Http-clause-serves g c = λ key stream from are. rw c.in-Http.is (c.serve_http.ensures.serves key stream from are)

pub returns-in-Http-clause-calm : goal.returns-in-Http-clause-calm
returns-in-Http-clause-calm g c = λ is.
    let known = c.known.ensures.stands in
    calm_of_done _ _ _ _ _ _ _ _ (c.serve_http.ensures.serves known.0 known.1 known.2 known.3).2 is

pub returns-in-Http-clause-read_fault : goal.returns-in-Http-clause-read_fault
returns-in-Http-clause-read_fault g c = λ is.
    let known = c.known.ensures.stands in
    cause_of_read_fault _ _ _ _ _ _ _ _ (c.serve_http.ensures.serves known.0 known.1 known.2 known.3).2 is

pub returns-in-Http-clause-write_fault : goal.returns-in-Http-clause-write_fault
returns-in-Http-clause-write_fault g c = λ is.
    let known = c.known.ensures.stands in
    cause_of_write_fault _ _ _ _ _ _ _ _ (c.serve_http.ensures.serves known.0 known.1 known.2 known.3).2 is

pub returns-in-Http-clause-spent : goal.returns-in-Http-clause-spent
returns-in-Http-clause-spent g c = λ is.
    let known = c.known.ensures.stands in
    cause_of_spent _ _ _ _ _ _ _ _ (c.serve_http.ensures.serves known.0 known.1 known.2 known.3).2 is

pub returns-in-Http-clause-want : goal.returns-in-Http-clause-want
returns-in-Http-clause-want g c = λ is.
    let known = c.known.ensures.stands in
    cause_of_want _ _ _ _ _ _ _ _ (c.serve_http.ensures.serves known.0 known.1 known.2 known.3).2 is
